-- What holds of an empty log, and is kept by each opening and by each step, holds of every log.
use mathlib.Core.Path.{◌≡◌, sym, subst}
use mathlib.Core.List.{[], ◌∷◌}
use Rattle.std.specs.Prelude.{Option, None, Some}
use Prim.Native.Nat.{ℕ}
use Rattle.esc_feedback.specs.declared.config.EscManagerConfig.{EscManagerConfig}
use Rattle.esc_records.specs.declared.record.Record.TheVariants as kind
use Rattle.esc_answers.specs.declared.answer.Answer.TheVariants as answer
use Rattle.booking.specs.History.{Opening, Seen, Past, Since, seen}
use Rattle.attribution.specs.Marks.{LogEntry, Log, since_in}
use Rattle.attribution.proofs.LawfulLog.{Lawful, start, opened, more}
use Rattle.attribution.proofs.Steps.{Step, plain, grants, takes, answers, ends, restarts, step}

-- the entry of a 00
abbrev pub opening_of : EscManagerConfig → ℕ → Option ℕ → LogEntry
opening_of c t o = record { seen = seen (kind.Open c t) answer.Done; origin = o }

step-opening : (o : Opening) (h : Past) (e : Seen) → Step o h e → e.opening ≡ None
step-opening o h e (plain s) = s.opening
step-opening o h e (grants q f s) = s.opening
step-opening o h e (takes b a s) = s.opening
step-opening o h e (answers q s) = s.opening
step-opening o h e (ends t s) = s.opening
step-opening o h e (restarts c f w s) = s.opening

-- what has come since the opening, with one entry more
since-opening : (l : Log) (s : Since) (e : LogEntry) → since_in l ≡ Some s → Step s.opening s.past e.seen
    → since_in (e ∷ l) ≡ Some (record { opening = s.opening; past = e.seen ∷ s.past })
unfolding since_in
since-opening l s e x st = rw (x, step-opening s.opening s.past e.seen st)

module _ (Q : Log → Option Since → Type 0) (empty : Q [] None)
    (opening : (l : Log) (c : EscManagerConfig) (t : ℕ) (o : Option ℕ) → Q l (since_in l)
    → Q (opening_of c t o ∷ l) (Some (record { opening = record { config = c; boot = t }; past = [] })))
    (stepping : (l : Log) (s : Since) (e : LogEntry) → Lawful l → since_in l ≡ Some s → Step s.opening s.past e.seen → Q l (Some s)
    → Q (e ∷ l) (Some (record { opening = s.opening; past = e.seen ∷ s.past }))) where
  stepped : (l : Log) (s : Since) (e : LogEntry) → Lawful l → since_in l ≡ Some s → Step s.opening s.past e.seen → Q l (since_in l)
      → Q (e ∷ l) (since_in (e ∷ l))
  stepped l s e i x st q = subst (Q (e ∷ l)) (sym (since-opening l s e x st)) (stepping l s e i x st (subst (Q l) x q))

  pub along : (l : Log) → Lawful l → Q l (since_in l)
  unfolding since_in
  along [] start = empty
  along (e ∷ l) (opened c t o i) = opening l c t o (along l i)
  along (e ∷ l) (more s r o x f i) = stepped l s _ i x (step s.opening s.past r f) (along l i)
