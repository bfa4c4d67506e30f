-- Samples taken one by one: those of the page that is not full are held; a page that is full is written, and no more held.
use Rattle.std.proofs.Common.{◌≡◌, ℕ, suc, ◌+◌, ◌*◌, ◌/◌, ◌%◌, ◌≤◌, ◌==◌, Bool, true, false, List, [], ◌∷◌, ◌++◌}
use Rattle.std.proofs.Common.{Option, All, length, drop, refl, sym, ap, ◌∙◌, arith}
use Rattle.std.proofs.Common.{length-drop, length-append, append-nil, eqb-true, ne_eqb, max, subst}
use Rattle.std.proofs.lemmas.Bool.{eqb-false}
use lib.ListN.{length-map}
use Rattle.std.specs.Io.KnownBytes.{Appends}
use Rattle.std.proofs.KnownBytes.{Appends-trans}
use Rattle.std.proofs.lemmas.List.{drop_all, drop-append-le, drop-map, map-append}
use Rattle.std.proofs.lemmas.List.Elements.{All-drop, All-push}
use Rattle.std.proofs.lemmas.List.Concat.{flat_map-append}
use Rattle.base.specs.Reply.{accepted}
use Rattle.esc_lanes.specs.declared.request.EscTelemetryUpdate.{EscTelemetryUpdate}
use Rattle.airframe.specs.declared.board_map.BoardMap.{BoardMap}
use Rattle.lent_samples.specs.Samples.{lent_sample, samples_of, samples_in}
use Rattle.lent_samples.proofs.PartsBack.{Long, pieces-length, parts-back}
use Rattle.sheet.specs.Page.{page_text}
use Rattle.sheet.specs.Sheet.{page_at, pages_for, pages_text, sheet_text, page_reply, page_output}
use Rattle.sheet.proofs.PiecesLaws.{pieces-more}
use Rattle.sheet.proofs.SheetLaws.{page-alone}
use Rattle.sheet.proofs.Growing.{pages-front, page-number}
use Rattle.flightsheet.specs.Pages.{Filed, full, parts_joined}
use Rattle.flightsheet.specs.declared.craft.Craft.{Craft}
use Rattle.flightsheet.specs.declared.pages.Pages.{Pages}

parts_joined-more : (parts : List (List ℕ)) (part : List ℕ) → parts_joined (parts ++ part ∷ []) ≡ parts_joined parts ++ part
parts_joined-more parts part = flat_map-append (λ p. p) parts (part ∷ []) ∙ ap (λ (l : List ℕ). parts_joined parts ++ l) (append-nil part)

-- a buffer of a page's length, written from the first entry on, holds the page
pub page-only : (number : ℕ) (bytes held : List ℕ) (map : BoardMap) (magnets len : ℕ) (out out' : List ℕ) → bytes ≡ held
    → accepted len ≡ page_reply bytes magnets (length out) → out' ≡ page_output number bytes map magnets out
    → length (page_text number map magnets (samples_in bytes)) ≡ len → length out ≡ 2214 → out' ≡ page_text number map magnets (samples_in held)
page-only number bytes held map magnets len out out' same told after long room =
    after ∙ page-alone number bytes map magnets len out (sym told) long room ∙ ap (λ (b : List ℕ). page_text number map magnets (samples_in b)) same

-- what is read of parts that are joined
parts-read : (parts : List (List ℕ)) → All (Long 22) parts → samples_in (parts_joined parts) ≡ samples_of parts
parts-read parts each = ap samples_of (parts-back parts each)

-- what is held makes the page behind the full ones
page-of : (map : BoardMap) (magnets number k : ℕ) (held : List ℕ) (taken : List (List ℕ)) → All (Long 22) taken
    → held ≡ parts_joined (drop (k * 40) taken) → number ≡ (k + 1) % 1_000_000
    → page_text number map magnets (samples_in held) ≡ page_at map magnets (samples_of taken) k
page-of map magnets number k held taken each is n =
    let left = All-drop (Long 22) (k * 40) taken each in
    let samples = ap samples_in is ∙ parts-read (drop (k * 40) taken) left ∙ sym (drop-map lent_sample (k * 40) taken) in
    ap (λ (n : ℕ). page_text n map magnets (samples_in held)) n ∙ page-number (k + 1) map magnets (samples_in held)
    ∙ ap (page_text (k + 1) map magnets) samples

module _ {c : Craft} {p : Pages} {taken : List (List ℕ)} {at_first now : Option (List ℕ)} (f : Filed c p taken at_first now) where
  abbrev k : ℕ
  k = full taken

  -- a page that is written is the craft's
  page-of-craft : (after : Option (List ℕ)) (held : List ℕ) → Appends now after (page_text p.number p.craft.map p.craft.magnets (samples_in held))
      → Appends now after (page_text p.number c.map c.magnets (samples_in held))
  page-of-craft after held = subst (λ (c : Craft). Appends now after (page_text p.number c.map c.magnets (samples_in held))) f.craft

  -- fewer are held than a page has
  held-length : length p.held ≡ length taken % 40 * 22
  held-length =
      let left = All-drop (Long 22) (k * 40) taken f.whole in
      ap length f.held ∙ pieces-length 22 (drop (k * 40) taken) left ∙ ap (λ (n : ℕ). n * 22) (length-drop (k * 40) taken ∙ omega arith)

  pub held-room : length p.held + 22 ≤ 880
  held-room = omega (arith, held-length)

  module _ (sample : List ℕ) (one : length sample ≡ 22) (held : List ℕ) (more : held ≡ p.held ++ sample) where
    abbrev pub more_taken : List (List ℕ)
    more_taken = taken ++ sample ∷ []

    longer : length more_taken ≡ length taken + 1
    longer = length-append taken (sample ∷ [])

    each : All (Long 22) more_taken
    each = All-push (Long 22) taken sample f.whole one

    -- what is held then
    held-more : held ≡ parts_joined (drop (k * 40) more_taken)
    held-more =
        more ∙ ap (λ (l : List ℕ). l ++ sample) f.held ∙ sym (parts_joined-more (drop (k * 40) taken) sample)
        ∙ ap parts_joined (sym (drop-append-le (k * 40) taken (sample ∷ []) (omega arith)))

    held-long : length held ≡ (length taken % 40 + 1) * 22
    held-long = rw (more, length-append p.held sample, one, held-length) (omega arith)

    -- the full pages stay
    pages-stay : (map : BoardMap) (magnets : ℕ) → pages_text map magnets (samples_of more_taken) k ≡ pages_text map magnets (samples_of taken) k
    pages-stay map magnets =
        ap (λ (l : List EscTelemetryUpdate). pages_text map magnets l k) (map-append lent_sample taken (sample ∷ []))
        ∙ pages-front map magnets (samples_of taken) (samples_of (sample ∷ [])) k (rw (length-map taken lent_sample) (omega arith))

    still : (length held == 880) ≡ false → full more_taken ≡ k
    still short = omega (arith, longer, held-long, eqb-false (length held) 880 short)

    next : (length held == 880) ≡ true → full more_taken ≡ suc k
    next whole = omega (arith, longer, held-long, eqb-true (length held) 880 whole)

    -- a page that is not full
    pub filed-more : (p' : Pages) → p'.craft ≡ p.craft → p'.held ≡ held → p'.number ≡ p.number → p'.first ≡ p.first
        → (length held == 880) ≡ false → Filed c p' more_taken at_first now
    filed-more p' craft h number first short =
        let same = still short in
        let text = ap (pages_text c.map c.magnets (samples_of more_taken)) same ∙ pages-stay c.map c.magnets in
        record {
          craft = craft ∙ f.craft;
          written = subst (Appends at_first now) (sym text) f.written;
          held = h ∙ held-more ∙ ap (λ (n : ℕ). parts_joined (drop (n * 40) more_taken)) (sym same);
          number = number ∙ f.number ∙ ap (λ (n : ℕ). (n + 1) % 1_000_000) (sym same);
          first = first ∙ f.first ∙ ap (λ (n : ℕ). n == 0) (sym same);
          whole = each;
        }

    -- a page that is full
    pub filed-page : (p' : Pages) (after : Option (List ℕ)) → p'.craft ≡ p.craft → p'.held ≡ [] → p'.number ≡ (p.number + 1) % 1_000_000
        → p'.first ≡ false → (length held == 880) ≡ true → Appends now after (page_text p.number p.craft.map p.craft.magnets (samples_in held))
        → Filed c p' more_taken at_first after
    filed-page p' after craft h number first whole written =
        let same = next whole in
        let text =
        ap (pages_text c.map c.magnets (samples_of more_taken)) same ∙ pieces-more (page_at c.map c.magnets (samples_of more_taken)) k
        ∙ ap (λ (l : List ℕ). l ++ page_at c.map c.magnets (samples_of more_taken) k) (pages-stay c.map c.magnets)
        ∙ ap (λ (l : List ℕ). pages_text c.map c.magnets (samples_of taken) k ++ l)
        (sym (page-of c.map c.magnets p.number k held more_taken each held-more f.number)) in
        record {
          craft = craft ∙ f.craft;
          written = subst (Appends at_first after) (sym text) (Appends-trans _ _ _ _ _ f.written (page-of-craft after held written));
          held = h ∙ sym (ap parts_joined (drop_all (full more_taken * 40) more_taken (omega (arith, longer, held-long, eqb-true (length held) 880 whole))));
          number = number ∙ rw (f.number, same) (omega arith);
          first = first ∙ rw same (sym (ne_eqb (suc k) 0 (λ e. omega arith)));
          whole = each;
        }

  pages-are : (n : ℕ) → max 1 ((length taken + 39) / 40) ≡ n → pages_for (length (samples_of taken)) ≡ n
  unfolding pages_for
  pages-are n e = rw (length-map taken lent_sample) e

  -- the end: all pages are written
  pub sheet-filed : (length p.held == 0) ≡ true → p.first ≡ false → Appends at_first now (sheet_text c.map c.magnets (samples_of taken))
  unfolding sheet_text
  sheet-filed none some =
      let empty = eqb-true (length p.held) 0 none in
      let full-one = eqb-false k 0 (sym f.first ∙ some) in
      let pages = pages-are k (omega (arith, empty, held-length, full-one)) in
      subst (Appends at_first now) (ap (pages_text c.map c.magnets (samples_of taken)) (sym pages)) f.written

  -- the end: one is left
  pub sheet-left : (after : Option (List ℕ)) → ((length p.held == 0) ≡ true → p.first ≡ true)
      → Appends now after (page_text p.number p.craft.map p.craft.magnets (samples_in p.held))
      → Appends at_first after (sheet_text c.map c.magnets (samples_of taken))
  unfolding sheet_text
  sheet-left after left written =
      let pages = pages-are (suc k) (one-more (length p.held == 0) refl left) in
      let text =
      ap (pages_text c.map c.magnets (samples_of taken)) pages ∙ pieces-more (page_at c.map c.magnets (samples_of taken)) k
      ∙ ap (λ (l : List ℕ). pages_text c.map c.magnets (samples_of taken) k ++ l)
      (sym (page-of c.map c.magnets p.number k p.held taken f.whole f.held f.number)) in
      subst (Appends at_first after) (sym text) (Appends-trans _ _ _ _ _ f.written (page-of-craft after p.held written))
    where
      one-more : (none : Bool) → (length p.held == 0) ≡ none → (none ≡ true → p.first ≡ true) → max 1 ((length taken + 39) / 40) ≡ suc k
      one-more true none only =
          let empty = eqb-true (length p.held) 0 none in
          let no-page = eqb-true k 0 (sym f.first ∙ only refl) in
          omega (arith, empty, held-length, no-page)
      one-more false some only =
          let begun = eqb-false (length p.held) 0 some in
          omega (arith, held-length, begun)
