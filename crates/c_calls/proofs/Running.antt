-- What a run over a stream keeps from byte to byte: what is left to read, from here on, gives the whole.
use Rattle.std.proofs.Common.{◌≡◌, ℕ, ◌+◌, ◌≤◌, ◌<◌, List, [], ◌∷◌, length, get_or, set, drop, Option, refl, ◌∙◌, add-one, drop-cons}
use Rattle.std.proofs.Math.ListN.{drop_of_length-le}
use Rattle.blheli_telemetry.specs.Parser.{new_parser, push_of}
use Rattle.blheli_telemetry.specs.Stream.{parsed_by}
use Rattle.blheli_telemetry.specs.declared.frame.EscTelemetry.{EscTelemetry}
use Rattle.blheli_telemetry.specs.declared.parser.StreamParser.{StreamParser}
use Rattle.c_calls.specs.Stream.{mark_of, filled_at, marked, filled, stats_by}

pub record Running (bytes gave₀ fields₀ gave fields : List ℕ) (p : StreamParser) (i : ℕ) : Type 0 where
  pub gave-long : length gave ≡ length gave₀
  pub fields-long : length fields ≡ length fields₀
  pub marks : marked i (parsed_by p (drop i bytes)) gave ≡ marked 0 (parsed_by new_parser bytes) gave₀
  pub fill : filled i (parsed_by p (drop i bytes)) fields ≡ filled 0 (parsed_by new_parser bytes) fields₀
  pub counts : stats_by p (drop i bytes) ≡ stats_by new_parser bytes

module _ {bytes gave₀ fields₀ gave fields : List ℕ} {p : StreamParser} {i : ℕ} (r : Running bytes gave₀ fields₀ gave fields p i) where
  left : i < length bytes → drop i bytes ≡ get_or bytes i 0 ∷ drop (i + 1) bytes
  left h = rw (add-one, drop-cons bytes i 0 h) refl

  -- one byte more
  pub running_more : i < length bytes → {gave' fields' : List ℕ} {parsed : Option EscTelemetry} {p' : StreamParser}
      → (parsed ≡ (push_of p (get_or bytes i 0)).parsed) × (p' ≡ (push_of p (get_or bytes i 0)).parser)
      → gave' ≡ set gave i (mark_of parsed) → fields' ≡ filled_at i parsed fields
      → length gave' ≡ length gave → length fields' ≡ length fields
      → Running bytes gave₀ fields₀ gave' fields' p' (i + 1)
  unfolding parsed_by marked filled stats_by
  running_more h pushed mark fill gl fl =
      record {
        gave-long = gl ∙ r.gave-long;
        fields-long = fl ∙ r.fields-long;
        marks = rw (mark, pushed.0, pushed.1) (rw (left h) at r.marks);
        fill = rw (fill, pushed.0, pushed.1) (rw (left h) at r.fill);
        counts = rw pushed.1 (rw (left h) at r.counts);
      }

  -- at the end nothing is left
  pub running-end : length bytes ≤ i
      → (p.stats ≡ stats_by new_parser bytes)
      × ((gave ≡ marked 0 (parsed_by new_parser bytes) gave₀) × (fields ≡ filled 0 (parsed_by new_parser bytes) fields₀))
  unfolding parsed_by marked filled stats_by
  running-end h =
      let e : drop i bytes ≡ [] = drop_of_length-le bytes h in
      (rw e at r.counts, (rw e at r.marks, rw e at r.fill))
