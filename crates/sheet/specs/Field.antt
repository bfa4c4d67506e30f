-- The fields of a row: numbers at their right end, blanks before them (document 02, Q-2).
use Rattle.std.specs.Prelude.{ℕ, ◌-◌, ◌/◌, ◌%◌, List, ◌∷◌, ◌++◌, decimal, length, replicate}

-- a blank
abbrev pub blank : ℕ
blank = 0x20

abbrev pub blanks : ℕ → List ℕ
blanks n = replicate n blank

-- 'right-aligned': a text at the right end of so many characters
unfoldable pub right : ℕ → List ℕ → List ℕ
right width text = blanks (width - length text) ++ text

abbrev pub point : ℕ
point = 0x2e

-- 'volts with two decimals', of a voltage in hundredths of a volt
unfoldable pub volts : ℕ → List ℕ
volts cv = decimal (cv / 100) ++ (point ∷ (decimal (cv / 10 % 10) ++ decimal (cv % 10)))
