-- The capture search (document 02, Q-3): where the first good frame starts. In proofs/, `first-searched` says that this is what the request
-- asks, `one-answer` that nothing else is.
use Rattle.std.specs.Prelude.{
  ◌≡◌,
  ℕ,
  suc,
  ◌+◌,
  ◌<◌,
  ◌≤◌,
  Bool,
  true,
  List,
  [],
  ◌∷◌,
  length,
  take,
  drop,
  Option,
  Some,
  None,
  option_map,
}
use Rattle.base.specs.Choice.{pick}
use Rattle.base.specs.Reply.{is_accepted}
use Rattle.blheli_telemetry.specs.Frame.{read_frame}

-- the ten bytes from a place on, fewer near the end
abbrev pub window : List ℕ → ℕ → List ℕ
window capture start = take 10 (drop start capture)

-- a good frame: one that reading accepts
abbrev pub good : List ℕ → Bool
good f = is_accepted (read_frame f)

-- where the first good frame starts: at the first byte, or else where the first of what comes behind this byte does, one place on
unfoldable pub first_frame : List ℕ → Option ℕ
first_frame [] = None
first_frame (byte ∷ behind) = pick (good (window (byte ∷ behind) 0)) (Some 0) (option_map suc (first_frame behind))

-- no start before a place has ten bytes that are a good frame
abbrev pub NoneBefore : List ℕ → ℕ → Type 0
NoneBefore capture place = (start : ℕ) → start < place → good (window capture start) ≡ true → ⊥

-- the request's sentence, of an answer: the ten bytes from this start are a good frame, and from no smaller one; or, of none, from no start
abbrev pub Searched : List ℕ → Option ℕ → Type 0
Searched capture (Some start) = (good (window capture start) ≡ true) × NoneBefore capture start
Searched capture None = (start : ℕ) → good (window capture start) ≡ true → ⊥

-- `first_frame` is such an answer
abbrev pub FirstSearched : Type 0
FirstSearched = (capture : List ℕ) → Searched capture (first_frame capture)

-- two people who search one capture talk about one frame
abbrev pub OneAnswer : Type 0
OneAnswer = (capture : List ℕ) (one other : Option ℕ) → Searched capture one → Searched capture other → one ≡ other

-- a start lies ten bytes or more before the end, so the capture's length can stand for none
abbrev pub StartInside : Type 0
StartInside = (capture : List ℕ) (start : ℕ) → first_frame capture ≡ Some start → start + 10 ≤ length capture
