-- What is known of a sheet that fits, and of one that is refused.
use Rattle.std.proofs.Common.{◌≡◌, ◌+◌, ◌∙◌, ℕ, ◌*◌, ◌/◌, ◌%◌, ◌≤◌, ◌<◌, ◌==◌, Bool, true, false, List, length}
use Rattle.std.proofs.Common.{refl, sym, ap, le-leb, leb-true, nat_le, append-nil, arith}
use mathlib.Core.Bool.{false≢true}
use Rattle.std.proofs.lemmas.Bool.{lt-leb}
use Rattle.std.proofs.lemmas.List.{drop_all}
use Rattle.std.specs.List.{list_all}
use Rattle.base.specs.Choice.{pick}
use Rattle.base.specs.BigEndian.{overwrite}
use Rattle.base.specs.Reply.{Reply, accepted, refused, is_accepted}
use Rattle.esc_lanes.specs.declared.request.EscTelemetryUpdate.{EscTelemetryUpdate}
use Rattle.airframe.specs.Speed.{read_magnets}
use Rattle.base.specs.Reply.{converted}
use Rattle.airframe.specs.declared.board_map.BoardMap.{BoardMap}
use Rattle.lent_samples.proofs.SamplesLaws.{samples-long}
use Rattle.sheet.specs.Page.{page_text}
use Rattle.lent_samples.specs.Samples.{samples_in, samples_of, sample_parts, names_lane, read_samples}
use Rattle.sheet.specs.Sheet.{pages_for, length_in, with_magnets, pages_text, sheet_text, sheet_reply, sheet_output, page_reply, page_output}

-- magnets that are accepted are the ones that were given
pub magnets-same : (n m : ℕ) → read_magnets n ≡ accepted m → m ≡ n
unfolding read_magnets
magnets-same n m e = go (n == 0) (n % 2 == 0) e
  where
    go : (zero even : Bool) → pick zero (refused 11) (pick even (accepted n) (refused 11)) ≡ accepted m → m ≡ n
    go true even e = absurd (false≢true (ap is_accepted e))
    go false true e = cc
    go false false e = absurd (false≢true (ap is_accepted e))

-- samples that are whole and on lanes, room, magnets
pub sheet-accepted : (bytes : List ℕ) (magnets m room count : ℕ) → converted length (read_samples bytes) ≡ accepted count → pages_for count * 2214 ≤ room
    → read_magnets magnets ≡ accepted m → sheet_reply bytes magnets room ≡ accepted (pages_for count * 2214)
unfolding sheet_reply
sheet-accepted bytes magnets m room count e fits good = go (read_samples bytes) e
  where
    go : (r : Reply (List EscTelemetryUpdate)) → converted length r ≡ accepted count → length_in r magnets room ≡ accepted (pages_for count * 2214)
    go (refused n) e = absurd (false≢true (ap is_accepted e))
    go (accepted samples) e =
        let same : length samples ≡ count = cc in
        rw (same, le-leb (pages_for count * 2214) room fits, good) refl

-- a pair that was accepted is the length that is told, and the magnets
pub told-both : (r : Reply ℕ) (magnets len m : ℕ) → accepted (len, m) ≡ converted (with_magnets magnets) r → (r ≡ accepted len) × (m ≡ magnets)
told-both (accepted n) magnets len m e =
    let same : (len, m) ≡ (n, magnets) = cc in
    (ap accepted (sym (ap (λ (p : ℕ × ℕ). p.0) same)), ap (λ (p : ℕ × ℕ). p.1) same)
told-both (refused n) magnets len m e = absurd (false≢true (sym (ap is_accepted e)))

pub told-refused : (r : Reply ℕ) (magnets n : ℕ) → refused n ≡ converted (with_magnets magnets) r → r ≡ refused n
told-refused (accepted len) magnets n e = absurd (false≢true (ap is_accepted e))
told-refused (refused m) magnets n e = cc

-- what an accepted sheet is known by
pub record Fitting (bytes : List ℕ) (room len : ℕ) : Type 0 where
  pub pages : len ≡ pages_for (length (samples_in bytes)) * 2214
  pub fits : len ≤ room

pub sheet-fitting : (bytes : List ℕ) (magnets room len : ℕ) → sheet_reply bytes magnets room ≡ accepted len → Fitting bytes room len
unfolding sheet_reply read_samples
sheet-fitting bytes magnets room len e =
    go (length bytes % 22 == 0) (list_all names_lane (sample_parts bytes)) e
  where
    n : ℕ
    n = pages_for (length (samples_in bytes)) * 2214

    told : (fits : Bool) (m : Reply ℕ) → nat_le n room ≡ fits → pick fits (converted (λ x. n) m) (refused 9) ≡ accepted len → Fitting bytes room len
    told true (accepted m) f e = let same : n ≡ len = cc in record { pages = sym same; fits = rw (sym same) (leb-true n room f) }
    told true (refused m) f e = absurd (false≢true (ap is_accepted e))
    told false m f e = absurd (false≢true (ap is_accepted e))

    go : (whole lanes : Bool) → length_in (pick whole (pick lanes (accepted (samples_in bytes)) (refused 6)) (refused 5)) magnets room ≡ accepted len
        → Fitting bytes room len
    go true true e = told (nat_le n room) (read_magnets magnets) refl e
    go true false e = absurd (false≢true (ap is_accepted e))
    go false lanes e = absurd (false≢true (ap is_accepted e))

-- the pages that were counted are the sheet
pub sheet-written : (bytes : List ℕ) (map : BoardMap) (magnets m len : ℕ) (parts : List (List ℕ)) (out : List ℕ)
    → sheet_reply bytes magnets (length out) ≡ accepted len → m ≡ magnets → parts ≡ sample_parts bytes
    → overwrite 0 (pages_text map m (samples_of parts) (len / 2214)) out ≡ sheet_output bytes map magnets out
unfolding sheet_output sheet_text
sheet-written bytes map magnets m len parts out e same is =
    let fitting = sheet-fitting bytes magnets (length out) len e in
    let pages : len / 2214 ≡ pages_for (length (samples_in bytes)) = omega (arith, fitting.pages) in
    rw (e, same, is, pages) refl

pub output-refused : (bytes : List ℕ) (map : BoardMap) (magnets n : ℕ) (out : List ℕ) → sheet_reply bytes magnets (length out) ≡ refused n
    → sheet_output bytes map magnets out ≡ out
unfolding sheet_output
output-refused bytes map magnets n out e = rw e refl

-- a page of so many samples as it has room for
pub page-short : (bytes : List ℕ) (magnets room : ℕ) → length bytes ≤ 880 → page_reply bytes magnets room ≡ sheet_reply bytes magnets room
unfolding page_reply
page-short bytes magnets room short = rw (le-leb (length bytes) 880 short) refl

pub page-too-long : (bytes : List ℕ) (magnets room : ℕ) → 880 < length bytes → page_reply bytes magnets room ≡ refused 5
unfolding page_reply
page-too-long bytes magnets room long = rw (lt-leb (length bytes) 880 long) refl

-- so many are one page
pub page-one : (bytes : List ℕ) (magnets room len : ℕ) → length bytes ≤ 880 → sheet_reply bytes magnets room ≡ accepted len
    → (len ≡ 2214) × (2214 ≤ room)
unfolding pages_for
page-one bytes magnets room len short e =
    let fitting = sheet-fitting bytes magnets room len e in
    let count : length (samples_in bytes) ≤ 40 = rw (samples-long bytes) (omega arith) in
    (omega (arith, fitting.pages, count), omega (arith, fitting.pages, fitting.fits))

pub page-told-length : (number : ℕ) (bytes : List ℕ) (map : BoardMap) (magnets m len : ℕ) (parts : List (List ℕ))
    → length (page_text number map m (samples_of parts)) ≡ 2214 → len ≡ 2214 → m ≡ magnets → parts ≡ sample_parts bytes
    → length (page_text number map magnets (samples_in bytes)) ≡ len
page-told-length number bytes map magnets m len parts long one same is = rw (one, ← same, ← is) long

pub sheet-length : (bytes : List ℕ) (map : BoardMap) (magnets m len : ℕ) (parts : List (List ℕ)) (room : ℕ)
    → sheet_reply bytes magnets room ≡ accepted len → length (pages_text map m (samples_of parts) (len / 2214)) ≡ len / 2214 * 2214
    → m ≡ magnets → parts ≡ sample_parts bytes → length (sheet_text map magnets (samples_in bytes)) ≡ len
unfolding sheet_text
sheet-length bytes map magnets m len parts room e long same is =
    let fitting = sheet-fitting bytes magnets room len e in
    let pages : len / 2214 ≡ pages_for (length (samples_in bytes)) = omega (arith, fitting.pages) in
    rw (← pages, ← same, ← is) (long ∙ omega (arith, fitting.pages))

pub page-written : (number : ℕ) (bytes : List ℕ) (map : BoardMap) (magnets m len : ℕ) (parts : List (List ℕ)) (out : List ℕ)
    → page_reply bytes magnets (length out) ≡ accepted len → m ≡ magnets → parts ≡ sample_parts bytes
    → overwrite 0 (page_text number map m (samples_of parts)) out ≡ page_output number bytes map magnets out
unfolding page_output
page-written number bytes map magnets m len parts out e same is = rw (e, same, is) refl

pub page-refused : (number : ℕ) (bytes : List ℕ) (map : BoardMap) (magnets n : ℕ) (out : List ℕ) → page_reply bytes magnets (length out) ≡ refused n
    → page_output number bytes map magnets out ≡ out
unfolding page_output
page-refused number bytes map magnets n out e = rw e refl

-- a sheet is refused by 5, 6, 9 or 11
pub refused-between : (bytes : List ℕ) (magnets room n : ℕ) → sheet_reply bytes magnets room ≡ refused n → (5 ≤ n) × (n ≤ 11)
unfolding sheet_reply read_samples read_magnets
refused-between bytes magnets room n e = samples (length bytes % 22 == 0) (list_all names_lane (sample_parts bytes)) e
  where
    all : ℕ
    all = pages_for (length (samples_in bytes)) * 2214

    is : (m : ℕ) → m ≡ n → 5 ≤ m → m ≤ 11 → (5 ≤ n) × (n ≤ 11)
    is m same low high = (rw (sym same) low, rw (sym same) high)

    fits : (room zero even : Bool)
        → pick room (converted (λ m. all) (pick zero (refused 11) (pick even (accepted magnets) (refused 11)))) (refused 9) ≡ refused n
        → (5 ≤ n) × (n ≤ 11)
    fits false zero even e = is 9 (cc) (omega arith) (omega arith)
    fits true true even e = is 11 (cc) (omega arith) (omega arith)
    fits true false false e = is 11 (cc) (omega arith) (omega arith)
    fits true false true e = absurd (false≢true (sym (ap is_accepted e)))

    samples : (whole lanes : Bool)
        → length_in (pick whole (pick lanes (accepted (samples_in bytes)) (refused 6)) (refused 5)) magnets room ≡ refused n
        → (5 ≤ n) × (n ≤ 11)
    samples false lanes e = is 5 (cc) (omega arith) (omega arith)
    samples true false e = is 6 (cc) (omega arith) (omega arith)
    samples true true e = fits (nat_le all room) (magnets == 0) (magnets % 2 == 0) e

-- a buffer of a page's length holds the page alone
pub page-alone : (number : ℕ) (bytes : List ℕ) (map : BoardMap) (magnets len : ℕ) (out : List ℕ) → page_reply bytes magnets (length out) ≡ accepted len
    → length (page_text number map magnets (samples_in bytes)) ≡ len → length out ≡ 2214
    → page_output number bytes map magnets out ≡ page_text number map magnets (samples_in bytes)
unfolding page_reply overwrite
page-alone number bytes map magnets len out e long room = go (nat_le (length bytes) 880) refl e
  where
    go : (short : Bool) → nat_le (length bytes) 880 ≡ short → pick short (sheet_reply bytes magnets (length out)) (refused 5) ≡ accepted len
        → page_output number bytes map magnets out ≡ page_text number map magnets (samples_in bytes)
    go false s e = absurd (false≢true (ap is_accepted e))
    go true s e' =
        let one = page-one bytes magnets (length out) len (leb-true (length bytes) 880 s) e' in
        let text : List ℕ = page_text number map magnets (samples_in bytes) in
        sym (page-written number bytes map magnets magnets len (sample_parts bytes) out e refl refl)
        ∙ rw (drop_all (0 + length text) out (omega (arith, long, one.0, room))) (append-nil text)
