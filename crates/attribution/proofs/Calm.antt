-- While a fault stands no request is open: a timeout ends the request, and none is granted before the recovery.
use mathlib.Core.Path.{◌≡◌, refl, sym, ◌∙◌}
use mathlib.Core.List.{◌∷◌}
use Rattle.std.specs.Prelude.{Option, None, is_some}
use mathlib.Core.Bool.{Bool, true, false, ◌||◌, false≢true}
use Rattle.base.specs.Choice.{pick}
use Rattle.booking.specs.History.{Opening, Timed, Seen, Past}
use Rattle.booking.specs.Booking.{open_request}
use Rattle.booking.specs.Faults.{faulted}
use Rattle.booking.specs.Claims.{past_of}
use Rattle.booking.proofs.UnitSteps.{Calm}
use Rattle.attribution.specs.Marks.{Log, past}
use Rattle.attribution.proofs.LawfulLog.{Lawful}
use Rattle.attribution.proofs.Steps.{Step, plain, grants, takes, answers, ends, restarts}
use Rattle.attribution.proofs.Along.{along}

-- a sample or not, what was not open is not open
still-none : (d : Bool) (x : Option Timed) → x ≡ None → pick (d || false) None x ≡ None
still-none true x e = refl
still-none false x e = e

calm-step : (o : Opening) (h : Past) (e : Seen) → Step o h e → Calm h → Calm (e ∷ h)
unfolding open_request faulted
calm-step o h e (plain s) i f = rw (s.delivered, s.timeout, s.granted) (i (rw (s.timeout, s.recovered) at f))
calm-step o h e (grants q z s) i f = absurd (false≢true (sym z.calm ∙ (rw (s.timeout, s.recovered) at f)))
calm-step o h e (takes b a s) i f =
    rw (s.timeout, s.granted) (still-none (is_some e.requests.delivered) (open_request h) (i (rw (s.timeout, s.recovered) at f)))
calm-step o h e (answers q s) i f =
    rw (s.timeout, s.granted) (still-none (is_some e.requests.delivered) (open_request h) (i (rw (s.timeout, s.recovered) at f)))
calm-step o h e (ends t s) i f = rw (s.delivered, s.timeout)
calm-step o h e (restarts c z w s) i f = absurd (false≢true (rw (s.timeout, s.recovered) at f))

pub calm : (l : Log) → Lawful l → Calm (past l)
unfolding open_request
calm = along (λ l s. Calm (past_of s)) (λ f. refl) (λ l c t o i f. refl) (λ l s e k x st i. calm-step s.opening s.past e.seen st i)
