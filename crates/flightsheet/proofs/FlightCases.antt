-- Three answers, by computation: a sample is delivered, another one, which was stored, is only shown, and a line is refused.
use Rattle.std.proofs.Common.{◌≡◌, ℕ, List, [], ◌∷◌, ◌++◌, Some, None, All, codes, refl, arith}
use Rattle.std.proofs.lemmas.List.Elements.{All-nil, All-cons}
use Rattle.base.specs.Reply.{Reply, accepted, refused}
use Rattle.base.specs.Bytes.{are_bytes}
use Rattle.base.specs.BigEndian.{bytes_of}
use Rattle.blheli_telemetry.specs.Frame.{payload_of}
use Rattle.esc_lanes.specs.declared.output.Lane.TheVariants.{Output2, Output3}
use Rattle.esc_lanes.specs.declared.request.EscTelemetryUpdate.{EscTelemetryUpdate}
use Rattle.hex_lines.specs.Digit.{small_digit, small, digit_of, glyph_of}
use Rattle.hex_lines.specs.Line.{line_end, all_digits, pairs, hex_of, printed_line}
use Rattle.hex_lines.specs.Lines.{lines_from, lines_of}
use Rattle.esc_answers.specs.Answer.{sample_bytes, idle_bytes, delivered_bytes, ack_bytes, stored_bytes, body_bytes, answer_bytes, reply_bytes}
use Rattle.esc_answers.specs.declared.answer.AckAnswer.TheVariants as ack
use Rattle.esc_answers.specs.declared.answer.Answer.{Answer}
use Rattle.esc_answers.specs.declared.answer.Answer.TheVariants as answer
use Rattle.lent_samples.specs.SamplesBack.{SampleRanged}
use Rattle.answer_lines.specs.Form.{has_form, fits_one}
use Rattle.answer_lines.specs.Told.{told_by}
use Rattle.answer_lines.specs.AnswerLine.{line_bytes, line_tells}
use Rattle.flightsheet.specs.Flight.{delivered_by}
use Rattle.flightsheet.specs.Claims.{replies_text, updates_of, Sayable}

abbrev delivered : EscTelemetryUpdate
delivered =
    record {
      output = record { 0 = Output2 };
      observation =
          record {
            sample = record { temperature_c = 0x21; voltage_cv = 0x2223; current_ca = 0x2425; consumption_mah = 0x2627; erpm_div100 = 0x2829 };
            observed_at_ms = 0x1112131415161718;
            request_sequence = 0x01020304;
          };
    }

abbrev shown : EscTelemetryUpdate
shown =
    record {
      output = record { 0 = Output3 };
      observation =
          record {
            sample = record { temperature_c = 0x51; voltage_cv = 0x5253; current_ca = 0x5455; consumption_mah = 0x5657; erpm_div100 = 0x5859 };
            observed_at_ms = 0x4142434445464748;
            request_sequence = 0x31323334;
          };
    }

abbrev first : Reply Answer
first = accepted (answer.Ack (ack.Sample (record { update = delivered; status = None })))

abbrev second : Reply Answer
second = accepted (answer.Stored (Some shown))

abbrev third : Reply Answer
third = refused 2

abbrev replies : List (Reply Answer)
replies = first ∷ second ∷ third ∷ []

abbrev text : List ℕ
text =
    (codes "00020101020304111213141516171821222324252627282900" ++ line_end ∷ [])
    ++ (codes "000102313233344142434445464748515253545556575859" ++ line_end ∷ [])
    ++ (codes "02" ++ line_end ∷ [])

-- they are as the types in the code have them, and printed as this text; its lines deliver the one sample, and no others
pub record FlightCases : Type 0 where
  pub said : All Sayable replies
  pub printed : replies_text replies ≡ text
  pub found : delivered_by (lines_of text) ≡ sample_bytes delivered ∷ []
  pub updates : updates_of replies ≡ delivered ∷ []

delivered-ranged : SampleRanged delivered
delivered-ranged =
    record {
      sequence = omega arith;
      time = omega arith;
      telemetry =
          record { temperature = omega arith; voltage = omega arith; current = omega arith; consumption = omega arith; erpm = omega arith };
    }

pub flight-cases : FlightCases
unfolding are_bytes bytes_of payload_of small_digit small digit_of glyph_of all_digits pairs hex_of printed_line lines_from sample_bytes idle_bytes
    delivered_bytes ack_bytes stored_bytes body_bytes answer_bytes reply_bytes has_form fits_one told_by line_bytes line_tells
flight-cases =
    let none : All SampleRanged [] = All-nil SampleRanged in
    let one : All SampleRanged (delivered ∷ []) = All-cons SampleRanged delivered [] delivered-ranged none in
    record {
      said =
          All-cons Sayable first (second ∷ third ∷ []) (record { printable = tt; bytes = refl; ranged = one })
          (All-cons Sayable second (third ∷ []) (record { printable = tt; bytes = refl; ranged = none })
          (All-cons Sayable third [] (record { printable = (omega arith, omega arith); bytes = refl; ranged = none }) (All-nil Sayable)));
      printed = refl;
      found = refl;
      updates = refl;
    }
