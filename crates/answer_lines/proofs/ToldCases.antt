-- What bytes tell, by computation: each form once, with bytes of which no two are equal where they are free; and what is nearly one.
use Rattle.std.proofs.Common.{◌≡◌, ℕ, List, [], ◌∷◌, ◌++◌, map, replicate, refl}
use Rattle.std.specs.Prelude.{codes}
use Rattle.base.proofs.Rising.{rising}
use Rattle.answer_lines.specs.Form.{has_form, fits_one}
use Rattle.answer_lines.specs.Told.{told_by}
use Rattle.answer_lines.specs.declared.told.Told.TheVariants as told

-- a sample of lane 1
abbrev sample : List ℕ
sample = 0x01 ∷ rising 21 0x11

-- 00 02, the sample, and this
abbrev delivering : List ℕ → List ℕ
delivering status = 0x00 ∷ 0x02 ∷ (sample ++ status)

-- no check, pending, qualified, invalid settings; overspeed of lane 3; a timeout
abbrev statuses : List (List ℕ)
statuses =
    (0x00 ∷ [])
    ∷ (0x01 ∷ [])
    ∷ (0x02 ∷ [])
    ∷ (0x03 ∷ [])
    ∷ (0x04 ∷ 0x03 ∷ 0x31 ∷ 0x32 ∷ [])
    ∷ (0x05 ∷ rising 4 0x41)
    ∷ []

-- accepted, the first refusal and the last; a flag, an idle status of a byte; overspeed; a count; four counts; a request, one that timed out;
-- figures; a stored sample; a report
abbrev others : List (List ℕ)
others =
    (0x00 ∷ [])
    ∷ (0x01 ∷ [])
    ∷ (0x0c ∷ [])
    ∷ (0x00 ∷ 0x01 ∷ [])
    ∷ (0x00 ∷ 0x03 ∷ [])
    ∷ (0x00 ∷ 0x04 ∷ 0x03 ∷ rising 2 0x11)
    ∷ (0x00 ∷ 0x01 ∷ rising 4 0x11)
    ∷ (0x00 ∷ 0x05 ∷ rising 4 0x11)
    ∷ (0x00 ∷ 0x01 ∷ (rising 4 0x11 ++ 0x03 ∷ []))
    ∷ (0x00 ∷ 0x02 ∷ (rising 4 0x11 ++ 0x02 ∷ []))
    ∷ (0x00 ∷ rising 7 0x11)
    ∷ (0x00 ∷ 0x01 ∷ sample)
    ∷ (0x00 ∷ 0x01 ∷ 0x00 ∷ rising 40 0x11)
    ∷ []

-- no byte; no number of a refusal, alone or before another; a byte too few behind 00 02, or too many; lane 4; status 04 and 06 alone;
-- overspeed of lane 4; a sample behind 00 01 with a status; a 29 bytes' 00 00; a stored sample of lane 4; a request of lane 4; flag 2; a text
abbrev near : List (List ℕ)
near =
    []
    ∷ (0x0d ∷ [])
    ∷ (0x01 ∷ 0x01 ∷ [])
    ∷ (0x00 ∷ 0x04 ∷ [])
    ∷ delivering []
    ∷ delivering (0x00 ∷ 0x00 ∷ [])
    ∷ (0x00 ∷ 0x02 ∷ 0x04 ∷ (rising 21 0x11 ++ 0x00 ∷ []))
    ∷ delivering (0x04 ∷ [])
    ∷ delivering (0x06 ∷ rising 4 0x41)
    ∷ delivering (0x04 ∷ 0x04 ∷ 0x31 ∷ 0x32 ∷ [])
    ∷ (0x00 ∷ 0x01 ∷ (sample ++ 0x00 ∷ []))
    ∷ (0x00 ∷ 0x00 ∷ (sample ++ 0x05 ∷ rising 4 0x41))
    ∷ (0x01 ∷ 0x02 ∷ (sample ++ 0x00 ∷ []))
    ∷ (0x00 ∷ 0x01 ∷ 0x04 ∷ rising 21 0x11)
    ∷ (0x00 ∷ 0x01 ∷ (rising 4 0x11 ++ 0x04 ∷ []))
    ∷ (0x00 ∷ 0x01 ∷ 0x02 ∷ rising 40 0x11)
    ∷ codes "abcdefghijklmnopqrstuvwxyz"
    ∷ []

pub record ToldCases : Type 0 where
  pub delivered : map (λ status. told_by (delivering status)) statuses ≡ replicate 6 (told.Sample sample)
  pub other : map told_by others ≡ replicate 13 told.Other
  pub none : map told_by near ≡ replicate 17 told.NoAnswer

pub told-cases : ToldCases
unfolding told_by has_form fits_one
told-cases = record { delivered = refl; other = refl; none = refl }
