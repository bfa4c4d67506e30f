-- However the input comes in parts, the pieces joined are the text of the session that the parts joined are, and so the text that the
-- rules alone give.
use mathlib.Core.Path.{◌≡◌, ap, ◌∙◌}
use mathlib.Core.List.{List, [], ◌∷◌, ◌++◌, append-nil, append_assoc, flatten}
use Prim.Native.Nat.{ℕ}
use Rattle.unit_text.specs.Stream.{Streamed, at_start, after, printed, printed_at_end}
use Rattle.session_rules.specs.Traced.{traced_text}
use Rattle.unit_text.proofs.StreamLaws.{after-append, printed-append}
use Rattle.unit_text.proofs.SessionLaws.{streamed-session}
use Rattle.session_rules.proofs.Traced.{session-traced}
use Rattle.session_rules.specs.Pieces.{pieces}

joined : (s : Streamed) (parts : List (List ℕ)) → flatten (pieces s parts) ≡ printed s (flatten parts) ++ printed_at_end (after s (flatten parts))
unfolding pieces flatten printed after
joined s [] = append-nil (printed_at_end s)
joined s (part ∷ parts) =
    rw (printed-append s part (flatten parts), after-append s part (flatten parts), append_assoc)
    (ap (λ (l : List ℕ). printed s part ++ l) (joined (after s part) parts))

pub pieces-joined : (parts : List (List ℕ)) → flatten (pieces at_start parts) ≡ traced_text (flatten parts)
pieces-joined parts = joined at_start parts ∙ streamed-session (flatten parts) ∙ session-traced (flatten parts)
