-- On a map that was read, from lane to motor and from motor to lane, each conversion undoes the other.
use Rattle.std.proofs.Common.{◌≡◌, ℕ, true, List, [], ◌∷◌, refl, sym, subst, arith}
use Rattle.std.proofs.lemmas.Bool.Decides.{nat_tests}
use Rattle.base.specs.Reply.{accepted, is_accepted}
use Rattle.esc_lanes.specs.declared.output.Lane.{Lane}
use Rattle.esc_lanes.specs.declared.output.Lane.TheVariants.{Output1, Output2, Output3, Output4}
use Rattle.esc_lanes.specs.declared.output.EscOutput.{EscOutput}
use Rattle.airframe.specs.Motor.{motor_number}
use Rattle.airframe.specs.Once.{times, each_once}
use Rattle.airframe.specs.BoardMap.{motor_on, output_with, map_of, read_map}
use Rattle.airframe.specs.declared.motor.Motor.{Motor}
use Rattle.airframe.specs.declared.board_map.BoardMap.{BoardMap}
use Rattle.airframe.proofs.MotorLaws.{same-motor}
use Rattle.airframe.proofs.BoardMapLaws.{numbers_of, read-accepted, on-one-lane}

pub record BothWays (m : BoardMap) : Type 0 where
  -- from a motor to its lane and back
  pub motor-again : (k : Motor) → motor_on m (output_with m k) ≡ k
  -- from a lane to its motor and back
  pub output-again : (o : EscOutput) → output_with m (motor_on m o) ≡ o

abbrev of_four : Motor → Motor → Motor → Motor → BoardMap
of_four a b c d = record { motors = a ∷ b ∷ c ∷ d ∷ [] }

module _ (a b c d : Motor) (once : (k : Motor) → times (motor_number k) (numbers_of (of_four a b c d)) ≡ 1) where
  motor-back : (k : Motor) → motor_on (of_four a b c d) (output_with (of_four a b c d) k) ≡ k
  unfolding output_with
  motor-back k = let found = once k in grind (arith, nat_tests, same-motor)

  lane-back : (l : Lane) → output_with (of_four a b c d) (motor_on (of_four a b c d) (record { 0 = l })) ≡ record { 0 = l }
  unfolding output_with
  lane-back Output1 = let found = once a in grind (arith, nat_tests)
  lane-back Output2 = let found = once b in grind (arith, nat_tests)
  lane-back Output3 = let found = once c in grind (arith, nat_tests)
  lane-back Output4 = let found = once d in grind (arith, nat_tests)

  four-both_ways : BothWays (of_four a b c d)
  four-both_ways = record { motor-again = motor-back; output-again = λ o. lane-back o.0 }

pub both_ways : (s : List ℕ) (m : BoardMap) → read_map s ≡ accepted m → BothWays m
unfolding map_of
both_ways s m e =
    let read = (read-accepted s m e).read in
    subst BothWays (sym read) (four-both_ways _ _ _ _ (λ k. rw read at (on-one-lane s m e k)))

-- a map that is read, so that this speaks of some
pub some-map : is_accepted (read_map (4 ∷ 2 ∷ 1 ∷ 3 ∷ [])) ≡ true
unfolding each_once read_map
some-map = refl
