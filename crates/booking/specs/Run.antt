-- A list of calls fed to a unit never opened: each call gets the unit as the one before left it, and nothing else writes to it.
use Rattle.std.specs.Prelude.{List, [], ◌∷◌}
use Rattle.esc_unit.specs.Unit.{never_opened, call_of}
use Rattle.esc_unit.specs.declared.unit.Unit.{Unit}
use Rattle.booking.specs.History.{Call, History}

pub record Ran : Type 0 where
  pub unit : Unit
  pub history : History

-- the calls in the order of time; the history has the newest first
unfoldable pub feed : Unit → History → List Call → Ran
feed u h [] = record { unit = u; history = h }
feed u h (c ∷ cs) = feed (call_of u c.bytes c.room).unit (record { call = c; reply = (call_of u c.bytes c.room).reply } ∷ h) cs

unfoldable pub run : List Call → Ran
run cs = feed never_opened [] cs
