-- A text taken character by character: an ended line's sample is taken, and what is left of the text goes on behind it.
use Rattle.std.proofs.Common.{◌≡◌, ℕ, true, false, List, [], ◌∷◌, ◌++◌, Option, length, refl, sym, ap, ◌∙◌, arith}
use Rattle.std.proofs.Common.{append-nil, append_assoc, ne_eqb}
use Rattle.std.proofs.lemmas.Bool.{ltb-true, ltb-false}
use Rattle.std.proofs.lemmas.List.{nil_from_length}
use Rattle.std.specs.Io.KnownBytes.{Appends}
use mathlib.Core.Path.{subst}
use Rattle.lent_samples.specs.Samples.{samples_of}
use Rattle.sheet.specs.Sheet.{sheet_text}
use Rattle.hex_lines.specs.Lines.{lines_from, lines_of}
use Rattle.hex_lines.proofs.LinesLaws.{lines-at-end, lines-at-other}
use Rattle.answer_lines.specs.AnswerLine.{nothing_kept, with_character, any_taken, told_at_end}
use Rattle.answer_lines.specs.declared.told.Told.{Told}
use Rattle.answer_lines.proofs.AnswerLineLaws.{reads_none, reads_more, reads-begun, reads-told}
use Rattle.flightsheet.specs.Pages.{Filed}
use Rattle.flightsheet.specs.Flight.{Flown, delivered_by, sample_told, flight_sheet}
use Rattle.flightsheet.specs.declared.craft.Craft.{Craft}
use Rattle.flightsheet.specs.declared.flight.Flight.{Flight}

-- nothing taken
pub flown-none : (c : Craft) (f : Flight) (now : Option (List ℕ)) → f.reading ≡ nothing_kept → Filed c f.pages [] now now → Flown c f [] now now
flown-none c f now k filed = record { taken = []; line = []; passed = λ rest. refl; reads = reads_none k; filed = filed }

-- no line is begun behind one that ended
none-begun : any_taken nothing_kept ≡ false
none-begun = reads-begun (reads_none refl)

module _ {c : Craft} {f : Flight} {text : List ℕ} {at_first now : Option (List ℕ)} (w : Flown c f text at_first now) where
  -- a character of the line
  pub flown-more : (f' : Flight) (character : ℕ) → (character ≡ 10 → ⊥) → f'.reading ≡ with_character f.reading character
      → f'.pages ≡ f.pages → Flown c f' (text ++ character ∷ []) at_first now
  flown-more f' character other k p = record {
    taken = w.taken;
    line = w.line ++ character ∷ [];
    passed = λ rest.
        ap (λ (l : List ℕ). delivered_by (lines_of l)) (append_assoc text (character ∷ []) rest) ∙ w.passed (character ∷ rest)
        ∙ ap (λ (l : List (List ℕ)). w.taken ++ delivered_by l) (lines-at-other w.line rest character other);
    reads = reads_more character w.reads k;
    filed = rw p w.filed;
  }

  -- the line ends
  pub flown-ended : (f' : Flight) (after : Option (List ℕ)) (told : Told) → told ≡ told_at_end f.reading → f'.reading ≡ nothing_kept
      → Filed c f'.pages (w.taken ++ sample_told told) at_first after → Flown c f' (text ++ 10 ∷ []) at_first after
  flown-ended f' after told is k filed = record {
    taken = w.taken ++ sample_told told;
    line = [];
    passed = λ rest.
        ap (λ (l : List ℕ). delivered_by (lines_of l)) (append_assoc text (10 ∷ []) rest) ∙ w.passed (10 ∷ rest)
        ∙ ap (λ (l : List (List ℕ)). w.taken ++ delivered_by l) (lines-at-end w.line rest 10 refl)
        ∙ ap (λ (t : Told). w.taken ++ (sample_told t ++ delivered_by (lines_of rest))) (sym (is ∙ reads-told w.reads))
        ∙ sym (append_assoc w.taken (sample_told told) (delivered_by (lines_of rest)));
    reads = reads_none k;
    filed = filed;
  }

  -- the line ends, and delivers nothing
  pub flown-passed : (f' : Flight) (told : Told) → told ≡ told_at_end f.reading → f'.reading ≡ nothing_kept → sample_told told ≡ []
      → f'.pages ≡ f.pages → Flown c f' (text ++ 10 ∷ []) at_first now
  flown-passed f' told is k none p = flown-ended f' now told is k (rw (p, none, append-nil w.taken) w.filed)

  -- the end of the text, with no line begun
  pub flight-whole : any_taken f.reading ≡ false → (after : Option (List ℕ)) → Appends at_first after (sheet_text c.map c.magnets (samples_of w.taken))
      → Appends at_first after (flight_sheet c.map c.magnets text)
  unfolding flight_sheet lines_from
  flight-whole none after written = subst (λ (taken : List (List ℕ)). Appends at_first after (sheet_text c.map c.magnets (samples_of taken))) all written
    where
      empty : w.line ≡ []
      empty = nil_from_length w.line (omega (arith, ltb-false 0 (length w.line) (sym (reads-begun w.reads) ∙ none)))

      all : w.taken ≡ delivered_by (lines_of text)
      all =
          sym (append-nil w.taken) ∙ ap (λ (line : List ℕ). w.taken ++ delivered_by (lines_from line [])) (sym empty) ∙ sym (w.passed [])
          ∙ ap (λ (l : List ℕ). delivered_by (lines_of l)) (append-nil text)

  -- LF behind the text changes nothing where a line is begun
  flight-ended : any_taken f.reading ≡ true → flight_sheet c.map c.magnets (text ++ 10 ∷ []) ≡ flight_sheet c.map c.magnets text
  unfolding flight_sheet lines_from
  flight-ended some = ap (λ (taken : List (List ℕ)). sheet_text c.map c.magnets (samples_of taken)) same
    where
      ended : lines_from w.line (10 ∷ []) ≡ lines_from w.line []
      ended =
          let begun = ltb-true 0 (length w.line) (sym (reads-begun w.reads) ∙ some) in
          rw (ne_eqb (length w.line) 0 (λ e. omega (arith, begun))) refl

      same : delivered_by (lines_of (text ++ 10 ∷ [])) ≡ delivered_by (lines_of text)
      same =
          w.passed (10 ∷ []) ∙ ap (λ (l : List (List ℕ)). w.taken ++ delivered_by l) ended ∙ sym (w.passed [])
          ∙ ap (λ (l : List ℕ). delivered_by (lines_of l)) (append-nil text)

-- the end of a text whose last line was ended for it
pub flight-last : {c : Craft} {f f' : Flight} {text : List ℕ} {at_first now then : Option (List ℕ)} → any_taken f.reading ≡ true
    → Flown c f text at_first now → (w : Flown c f' (text ++ 10 ∷ []) at_first then) → f'.reading ≡ nothing_kept
    → (after : Option (List ℕ)) → Appends at_first after (sheet_text c.map c.magnets (samples_of w.taken))
    → Appends at_first after (flight_sheet c.map c.magnets text)
flight-last {at_first = at_first} some w w' k after written =
    subst (Appends at_first after) (flight-ended w some) (flight-whole w' (ap any_taken k ∙ none-begun) after written)
