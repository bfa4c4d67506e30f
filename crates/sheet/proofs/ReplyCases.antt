-- What a sheet and a page are refused by, the lowest number that fits, and what is written: of the rules themselves, by computation.
use Rattle.std.proofs.Common.{◌≡◌, ℕ, List, [], ◌∷◌, ◌++◌, replicate, refl}
use Rattle.std.specs.Fmt.{digits}
use Rattle.base.specs.BigEndian.{overwrite}
use Rattle.base.specs.Reply.{accepted, refused}
use Rattle.airframe.specs.Speed.{read_magnets}
use Rattle.airframe.specs.BoardMap.{map_of}
use Rattle.lent_samples.specs.Samples.{read_samples}
use Rattle.sheet.specs.Field.{right}
use Rattle.sheet.specs.Row.{head_text, blank_row}
use Rattle.sheet.specs.Page.{page_text}
use Rattle.sheet.specs.Sheet.{pages_for, sheet_text, sheet_reply, sheet_output, page_reply, page_output}

-- so many bytes of lane 4
abbrev of_lane_4 : ℕ → List ℕ
of_lane_4 n = replicate n 4

pub record ReplyCases : Type 0 where
  -- 5 before 6, 6 before 9, 9 before 11; 11 with an empty list too
  pub not-whole : sheet_reply (of_lane_4 23) 13 0 ≡ refused 5
  pub no-lane : sheet_reply (of_lane_4 22) 13 0 ≡ refused 6
  pub short : sheet_reply [] 13 2213 ≡ refused 9
  pub odd : sheet_reply [] 13 2214 ≡ refused 11
  pub no-magnets : sheet_reply [] 0 2214 ≡ refused 11
  pub fits : sheet_reply [] 14 2214 ≡ accepted 2214
  -- 41 samples need room for two pages
  pub short-41 : sheet_reply (replicate 902 0) 14 4427 ≡ refused 9
  pub fits-41 : sheet_reply (replicate 902 0) 14 4428 ≡ accepted 4428
  -- a page takes 40, and what a sheet is refused by comes behind that
  pub page-40 : page_reply (replicate 880 0) 14 2214 ≡ accepted 2214
  pub page-41 : page_reply (of_lane_4 902) 13 0 ≡ refused 5
  pub page-lane : page_reply (of_lane_4 880) 13 0 ≡ refused 6
  -- written from the first entry on, the rest as found; a refusal leaves all as found
  pub rest : sheet_output [] (map_of (4 ∷ 2 ∷ 1 ∷ 3 ∷ [])) 14 (replicate 2214 7 ++ 8 ∷ []) ≡ sheet_text (map_of (4 ∷ 2 ∷ 1 ∷ 3 ∷ [])) 14 [] ++ 8 ∷ []
  pub all : sheet_output [] (map_of (4 ∷ 2 ∷ 1 ∷ 3 ∷ [])) 13 (1 ∷ 2 ∷ []) ≡ 1 ∷ 2 ∷ []
  pub page-all : page_output 3 (of_lane_4 902) (map_of (4 ∷ 2 ∷ 1 ∷ 3 ∷ [])) 14 (1 ∷ 2 ∷ []) ≡ 1 ∷ 2 ∷ []

pub reply-cases : ReplyCases
unfolding read_samples read_magnets pages_for sheet_reply page_reply sheet_output page_output sheet_text page_text head_text blank_row right digits overwrite
reply-cases = record {
  not-whole = refl;
  no-lane = refl;
  short = refl;
  odd = refl;
  no-magnets = refl;
  fits = refl;
  short-41 = refl;
  fits-41 = refl;
  page-40 = refl;
  page-41 = refl;
  page-lane = refl;
  rest = refl;
  all = refl;
  page-all = refl;
}
