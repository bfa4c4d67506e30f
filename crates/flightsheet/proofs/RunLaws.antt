-- What a run has done so far: some bytes are read, and they are flown. Where all are read, the end makes it the sheet of the text.
use Rattle.std.proofs.Common.{ℕ, List, [], ◌++◌, Option, append-nil}
use Rattle.std.specs.Prelude.{IfSome}
use mathlib.Core.Path.{subst}
use Rattle.std.specs.Io.KnownBytes.{Appends, Consumes, IsAtEnd}
use Rattle.std.proofs.KnownBytes.{Consumes-nil, Consumes-trans, Consumes-whole}
use Rattle.flightsheet.specs.Flight.{Flown, flight_sheet}
use Rattle.flightsheet.specs.declared.craft.Craft.{Craft}
use Rattle.flightsheet.specs.declared.flight.Flight.{Flight}

-- by the bytes that were left to read and that the writer held, at first and now
pub record RunSoFar (c : Craft) (f : Flight) (left₀ left held₀ held : Option (List ℕ)) : Type 0 where
  pub done : List ℕ
  pub read : Consumes left₀ left done
  pub flown : Flown c f done held₀ held

pub run-begun : (c : Craft) (f : Flight) (left held : Option (List ℕ)) → Flown c f [] held held → RunSoFar c f left left held held
run-begun c f left held flown = record { done = []; read = Consumes-nil left; flown = flown }

module _ {c : Craft} {f : Flight} {left₀ left held₀ held : Option (List ℕ)} (s : RunSoFar c f left₀ left held₀ held) where
  -- a chunk more
  pub run-further : (f' : Flight) (chunk : List ℕ) (left' held' : Option (List ℕ)) → Consumes left left' chunk
      → Flown c f' (s.done ++ chunk) held₀ held' → RunSoFar c f' left₀ left' held₀ held'
  run-further f' chunk left' held' read flown =
      record { done = s.done ++ chunk; read = Consumes-trans left₀ left left' s.done chunk s.read read; flown = flown }

  -- the end
  pub run-ended : (left' held' : Option (List ℕ)) → Consumes left left' [] → IsAtEnd left' → Appends held₀ held' (flight_sheet c.map c.magnets s.done)
      → IfSome left₀ (λ text. Appends held₀ held' (flight_sheet c.map c.magnets text))
  run-ended left' held' read end written =
      let all = subst (Consumes left₀ left') (append-nil s.done) (Consumes-trans left₀ left left' s.done [] s.read read) in
      Consumes-whole left₀ left' s.done (λ text. Appends held₀ held' (flight_sheet c.map c.magnets text)) all end written
