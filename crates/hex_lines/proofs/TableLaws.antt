-- The table of digits is made from 0 to f: a character that was passed has its value, any other has none.
use Rattle.std.proofs.Common.{◌≡◌, ℕ, ◌+◌, ◌<◌, ◌≤◌, Option, None, List, length, get_or, set, replicate, arith, refl, sym, ◌∙◌, length-set}
use Rattle.std.proofs.lemmas.List.{get_or-set_same, get_or-set_other, get_or-replicate}
use Rattle.base.proofs.ByCases.{below_or_not}
use Rattle.hex_lines.specs.Digit.{value_of, DigitTabled}
use Rattle.hex_lines.proofs.DigitLaws.{none-below, none-above}

pub record Tabling (values : List (Option ℕ)) (next : ℕ) : Type 0 where
  pub long : length values ≡ 256
  pub before : (c : ℕ) → c < 0x30 → get_or values c None ≡ None
  pub passed : (c : ℕ) → 0x30 ≤ c → c < next → get_or values c None ≡ value_of c
  pub behind : (c : ℕ) → next ≤ c → c < 256 → get_or values c None ≡ None

pub tabling_none : Tabling (replicate 256 None) 0x30
tabling_none =
    record {
      long = refl;
      before = λ c h. get_or-replicate 256 c None None (omega arith);
      passed = λ c low high. absurd (omega arith);
      behind = λ c h within. get_or-replicate 256 c None None within;
    }

pub tabling_more : {values : List (Option ℕ)} {next : ℕ} → Tabling values next → 0x30 ≤ next → next < 256
    → (value : Option ℕ) → value ≡ value_of next → Tabling (set values next value) (next + 1)
tabling_more {values} {next} t low within value e =
    record {
      long = length-set values next value ∙ t.long;
      before = λ c h. get_or-set_other values next c value None (λ q. omega arith) ∙ t.before c h;
      passed =
          λ c from to.
          below_or_not c next
          (λ h. get_or-set_other values next c value None (λ q. omega arith) ∙ t.passed c from h)
          (λ h. let here : c ≡ next = omega arith in rw here (get_or-set_same values next value None (omega (arith, t.long)) ∙ e));
      behind = λ c h long. get_or-set_other values next c value None (λ q. omega arith) ∙ t.behind c (omega arith) long;
    }

pub tabling-all : {values : List (Option ℕ)} → Tabling values 0x67 → DigitTabled values
tabling-all t =
    record {
      rule = λ c within.
          below_or_not c 0x30
          (λ h. t.before c h ∙ sym (none-below c h))
          (λ from.
          below_or_not c 0x67
          (λ to. t.passed c from to)
          (λ h. t.behind c h within ∙ sym (none-above c (omega arith))));
    }
