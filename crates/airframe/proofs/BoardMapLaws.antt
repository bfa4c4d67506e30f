-- What a map that was read is known by: four bytes, each of 1 to 4 once, and its motors' numbers are those bytes.
use Rattle.std.proofs.Common.{◌≡◌, ℕ, true, List, length, map, sym, ap, ◌∙◌, arith}
use Rattle.std.proofs.lemmas.Bool.Decides.{nat_tests}
use Rattle.base.specs.Reply.{accepted}
use Rattle.airframe.specs.Motor.{motor_number}
use Rattle.airframe.specs.Once.{times, each_once}
use Rattle.airframe.specs.BoardMap.{map_of, read_map}
use Rattle.airframe.specs.declared.motor.Motor.{Motor}
use Rattle.airframe.specs.declared.board_map.BoardMap.{BoardMap}
use Rattle.airframe.proofs.MotorLaws.{number-of-motor}
use Rattle.airframe.proofs.EachOnceLaws.{each, four-entries, motor-bytes}

-- the numbers of the motors of lanes 0 to 3
abbrev pub numbers_of : BoardMap → List ℕ
numbers_of m = map motor_number m.motors

pub record Accepted (s : List ℕ) (m : BoardMap) : Type 0 where
  pub four : length s ≡ 4
  pub once : each_once s ≡ true
  pub read : m ≡ map_of s

pub read-accepted : (s : List ℕ) (m : BoardMap) → read_map s ≡ accepted m → Accepted s m
unfolding read_map
read-accepted s m e = grind (arith, nat_tests)

numbers-of-map : (s : List ℕ) → length s ≡ 4 → each_once s ≡ true → numbers_of (map_of s) ≡ s
unfolding map_of
numbers-of-map s l e =
    let b = motor-bytes _ _ _ _ (sym (ap each_once (four-entries s l)) ∙ e) in
    grind (arith, number-of-motor, four-entries)

-- the bytes are the motors of lanes 0 to 3, in that order
pub bytes-kept : (s : List ℕ) (m : BoardMap) → read_map s ≡ accepted m → numbers_of m ≡ s
bytes-kept s m e =
    let a = read-accepted s m e in
    ap numbers_of a.read ∙ numbers-of-map s a.four a.once

-- each motor is on one lane
pub on-one-lane : (s : List ℕ) (m : BoardMap) → read_map s ≡ accepted m → (k : Motor) → times (motor_number k) (numbers_of m) ≡ 1
on-one-lane s m e k = ap (times (motor_number k)) (bytes-kept s m e) ∙ each s (read-accepted s m e).once k.0
