-- A session printed piece by piece: the pieces that the stream gives, and a piece more as it is counted or written.
use Rattle.std.proofs.Common.{◌≡◌, ℕ, ◌+◌, ◌≤◌, List, [], ◌∷◌, ◌++◌, Result, Ok, Err, length, take, drop, refl, sym, ap, ◌∙◌}
use Rattle.std.proofs.Common.{arith, append_assoc, length-append, take-append-drop}
use Rattle.std.proofs.lemmas.List.{length-take-le}
use Rattle.base.specs.BigEndian.{overwrite}
use Rattle.base.specs.Handed.{handed_reply, handed_output, copied}
use Rattle.base.specs.Reply.{replied, accepted}
use Rattle.base.specs.declared.refusal.Refusal.{Refusal}
use Rattle.base.proofs.BigEndianLaws.{overwrite-append}
use Rattle.base.proofs.HandLaws.{fits-reply, told-length, told_text, copied-fits}
use Rattle.base.proofs.PutLaws.{overwrite-none}
use Rattle.unit_text.specs.Session.{session_text}
use Rattle.unit_text.specs.Stream.{Streamed, Taken, after, printed, printed_at_end, feed_of, fed_output, longest_line}
use Rattle.unit_text.specs.Pieces.{text_from, left_text, PieceOf}
use Rattle.unit_text.specs.declared.pieces.Pieces.{Pieces}
use Rattle.unit_text.proofs.FedLaws.{fed-stream, fed-text}
use Rattle.unit_text.proofs.StreamLaws.{after-append, printed-append, end-length}

-- a stream that is fed prints the front of what is left
pub fed_left : (s : Streamed) (rest piece piece' : List ℕ) (t : Taken) → t ≡ feed_of s rest (length piece) → piece' ≡ fed_output s rest piece
    → text_from s rest ≡ take t.written piece' ++ text_from t.stream (drop t.used rest)
fed_left s rest piece piece' t e p =
    let a = take t.used rest in
    let b = drop t.used rest in
    let whole : rest ≡ a ++ b = sym (take-append-drop t.used rest) in
    let put : take t.written piece' ≡ printed s a = fed-text s rest (length piece) t e piece piece' refl p in
    ap (text_from s) whole
    ∙ rw (printed-append s a b, after-append s a b, put, fed-stream s rest (length piece) t e)
    (append_assoc (printed s a) (printed (after s a) b) (printed_at_end (after (after s a) b)))

-- at the end of input it prints what is left, for which a piece has room
pub record EndPrinted (s : Streamed) (r : Result ℕ Refusal) (piece' : List ℕ) : Type 0 where
  pub count : ℕ
  pub said : r ≡ Ok count
  pub within : count ≤ longest_line
  pub text : take count piece' ≡ printed_at_end s

pub end_printed : (s : Streamed) (r : Result ℕ Refusal) (piece piece' : List ℕ) → longest_line ≤ length piece
    → replied r ≡ handed_reply (printed_at_end s) (length piece) → piece' ≡ handed_output (printed_at_end s) piece → EndPrinted s r piece'
end_printed s (Ok n) piece piece' room e p =
    record {
      count = n;
      said = refl;
      within = omega (arith, told-length (printed_at_end s) piece n e, end-length s);
      text = told_text (printed_at_end s) piece piece' n e p;
    }
end_printed s (Err refusal) piece piece' room e p =
    let fits : handed_reply (printed_at_end s) (length piece) ≡ accepted (length (printed_at_end s)) =
    fits-reply (printed_at_end s) piece (omega (arith, end-length s)) in
    absurd (cc)

pub text_from_none : (s : Streamed) (rest : List ℕ) → length rest ≡ 0 → text_from s rest ≡ printed_at_end s
unfolding printed after
text_from_none s [] e = refl
text_from_none s (c ∷ rest) e = absurd (omega arith)

pub piece_length : {before after : Pieces} {n : ℕ} → PieceOf before n after → length (left_text before) ≡ n + length (left_text after)
piece_length {before} {after} {n} p = rw (p.text, length-append, length-take-le n after.piece p.within)

-- what was written so far, up to `end`, and what is left are the session of a text
pub record Written (text : List ℕ) (pieces : Pieces) (out₀ : List ℕ) (end : ℕ) (out : List ℕ) : Type 0 where
  pub room : length (session_text text) ≤ length out₀
  pub front : List ℕ
  pub parts : session_text text ≡ front ++ left_text pieces
  pub place : end ≡ length front
  pub copied : out ≡ overwrite 0 front out₀

pub written_none : (text : List ℕ) (pieces : Pieces) (out : List ℕ) → length (session_text text) ≤ length out → left_text pieces ≡ session_text text
    → Written text pieces out 0 out
written_none text pieces out room e =
    record { room = room; front = []; parts = sym e; place = refl; copied = sym (overwrite-none 0 out) }

module _ {text : List ℕ} {pieces : Pieces} {out₀ : List ℕ} {end : ℕ} {out : List ℕ} (k : Written text pieces out₀ end out)
    {n : ℕ} {next : Pieces} (p : PieceOf pieces n next) where
  long : length (take n next.piece) ≡ n
  long = length-take-le n next.piece p.within

  written_room : end + n ≤ length out₀
  written_room = omega (arith, k.room, ap length k.parts, length-append k.front (left_text pieces), piece_length p, k.place)

  pub written_more : length out ≡ length out₀ → Written text next out₀ (end + n) (copied end (take n next.piece) out)
  written_more same =
      let piece = take n next.piece in
      record {
        room = k.room;
        front = k.front ++ piece;
        parts = k.parts ∙ rw p.text (sym (append_assoc k.front piece (left_text next)));
        place = rw (length-append, long, k.place);
        copied =
            copied-fits end piece out (omega (arith, long, written_room, same))
            ∙ rw k.copied (overwrite-append 0 end k.front piece out₀ (omega (arith, k.place)) (omega (arith, long, written_room)));
      }
