-- What a call hands back (document 01, 'Numbers handed back'): it is accepted with its values, or refused with a number alone.
use Rattle.std.specs.Prelude.{ℕ, Bool, true, false, Result, Ok, Err}
use Rattle.base.specs.declared.refusal.Refusal.{Refusal}
use Rattle.base.specs.declared.refusal.Refusal.TheVariants.{WideLine, Digit, HalfByte, Kind, Length, Lane, Flag, Unopened, Space, CheckByte, Magnets, Map}

pub data Reply (A : Type 0) : Type 0 where
  accepted : A → Reply A
  refused : ℕ → Reply A

abbrev pub is_accepted : {A : Type 0} → Reply A → Bool
is_accepted (accepted a) = true
is_accepted (refused n) = false

-- what was accepted, converted; a refusal stays
abbrev pub converted : {A B : Type 0} → (A → B) → Reply A → Reply B
converted f (accepted a) = accepted (f a)
converted f (refused n) = refused n

-- what a call for C answers: 0 where it is accepted, else document 01's number
abbrev pub number_of : {A : Type 0} → Reply A → ℕ
number_of (accepted a) = 0
number_of (refused number) = number

-- document 01's number of each refusal
abbrev pub refusal_number : Refusal → ℕ
refusal_number WideLine = 1
refusal_number Digit = 2
refusal_number HalfByte = 3
refusal_number Kind = 4
refusal_number Length = 5
refusal_number Lane = 6
refusal_number Flag = 7
refusal_number Unopened = 8
refusal_number Space = 9
refusal_number CheckByte = 10
refusal_number Magnets = 11
refusal_number Map = 12

-- document 01's number, and the value, for each answer of a call that may be refused
abbrev pub replied : {A : Type 0} → Result A Refusal → Reply A
replied (Ok a) = accepted a
replied (Err refusal) = refused (refusal_number refusal)
