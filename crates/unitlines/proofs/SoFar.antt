-- What a session has done so far: some bytes are read, and what is written is what a stream prints at them. Where all are read, the
-- end of the stream makes it the session's text.
use mathlib.Core.Path.{◌≡◌, sym, ap, ◌∙◌}
use mathlib.Core.List.{List, [], ◌++◌, append-nil}
use mathlib.Core.Path.{subst}
use Prim.Native.Nat.{ℕ}
use Rattle.std.specs.Prelude.{Some, None, IfSome}
use Rattle.std.proofs.Common.{Option}
use Rattle.std.specs.Io.KnownBytes.{Appends, Consumes, IsAtEnd}
use Rattle.std.proofs.KnownBytes.{Appends-nil, Appends-trans, Consumes-nil, Consumes-trans}
use Rattle.unit_text.specs.Session.{session_text}
use Rattle.unit_text.specs.Stream.{Streamed, at_start, after, printed, printed_at_end}
use Rattle.unit_text.proofs.SessionLaws.{streamed-session}
use Rattle.unit_text.proofs.StreamLaws.{after-append, printed-append}

-- by the bytes that were left to read and that the writer held, at first and now
pub record SoFar (s : Streamed) (left₀ left held₀ held : Option (List ℕ)) : Type 0 where
  pub done : List ℕ
  pub stream : s ≡ after at_start done
  pub read : Consumes left₀ left done
  pub written : Appends held₀ held (printed at_start done)

pub so_far-none : (s : Streamed) (left held : Option (List ℕ)) → s ≡ at_start → SoFar s left left held held
unfolding after printed
so_far-none s left held e = record { done = []; stream = e; read = Consumes-nil left; written = Appends-nil held }

module _ {s : Streamed} {left₀ left held₀ held : Option (List ℕ)} (f : SoFar s left₀ left held₀ held) where
  -- a chunk more
  pub so_far-more : (chunk : List ℕ) (t : Streamed) (left' held' : Option (List ℕ)) → t ≡ after s chunk → Consumes left left' chunk
      → Appends held held' (printed s chunk) → SoFar t left₀ left' held₀ held'
  so_far-more chunk t left' held' e read written =
      let behind : printed at_start (f.done ++ chunk) ≡ printed at_start f.done ++ printed s chunk =
      rw (f.stream) (printed-append at_start f.done chunk) in
      record {
        done = f.done ++ chunk;
        stream = e ∙ ap (λ (u : Streamed). after u chunk) f.stream ∙ sym (after-append at_start f.done chunk);
        read = Consumes-trans left₀ left left' f.done chunk f.read read;
        written = subst (Appends held₀ held') (sym behind) (Appends-trans held₀ held held' _ _ f.written written);
      }

  all_read : (left' : Option (List ℕ)) → Consumes left left' [] → IsAtEnd left' → IfSome left₀ (λ text. text ≡ f.done)
  all_read left' = go left₀ left left' f.read
    where
      go : (a b b' : Option (List ℕ)) → Consumes a b f.done → Consumes b b' [] → IsAtEnd b' → IfSome a (λ text. text ≡ f.done)
      go None b b' p q e = tt
      go (Some x) None b' p q e = absurd p
      go (Some x) (Some y) None p q e = absurd q
      go (Some x) (Some y) (Some z) p q e = p ∙ ap (λ (l : List ℕ). f.done ++ l) (q ∙ e) ∙ append-nil f.done

  -- the end
  pub so_far-end : (left' held' : Option (List ℕ)) → Consumes left left' [] → IsAtEnd left' → Appends held held' (printed_at_end s)
      → IfSome left₀ (λ text. Appends held₀ held' (session_text text))
  so_far-end left' held' read end written = go left₀ (all_read left' read end)
    where
      whole : Appends held₀ held' (session_text f.done)
      whole =
          let text : session_text f.done ≡ printed at_start f.done ++ printed_at_end s = rw (f.stream) (sym (streamed-session f.done)) in
          subst (Appends held₀ held') (sym text) (Appends-trans held₀ held held' _ _ f.written written)

      go : (a : Option (List ℕ)) → IfSome a (λ text. text ≡ f.done) → IfSome a (λ text. Appends held₀ held' (session_text text))
      go None e = tt
      go (Some text) e = rw e whole
