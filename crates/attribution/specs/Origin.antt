-- The requests of a log by their numbers, and what each of them made an ESC send.
use Rattle.std.specs.Prelude.{ℕ, List, [], ◌∷◌, ◌++◌, map, eqb, length}
use Rattle.std.specs.Prelude.{Option, None, Some, is_some}
use Rattle.base.specs.Choice.{pick}
use Rattle.esc_lanes.specs.declared.request.EscActuatorRequest.{EscActuatorRequest}
use Rattle.booking.specs.History.{Timed, Byte}
use Rattle.attribution.specs.Marks.{Log}

abbrev pub add_request : Option Timed → List EscActuatorRequest → List EscActuatorRequest
add_request None qs = qs
add_request (Some g) qs = g.request ∷ qs

-- the requests granted so far, newest first: number k stands before k others
unfoldable pub requests : Log → List EscActuatorRequest
requests [] = []
requests (e ∷ l) = add_request e.seen.requests.granted (requests l)

abbrev pub add_byte : ℕ → Option ℕ → Option Byte → List Byte → List Byte
add_byte k origin None bs = bs
add_byte k None (Some b) bs = bs
add_byte k (Some j) (Some b) bs = pick (eqb j k) (bs ++ b ∷ []) bs

-- all that request k made an ESC send, as far as it came in, oldest first
unfoldable pub sent_by : ℕ → Log → List Byte
sent_by k [] = []
sent_by k (e ∷ l) = add_byte k e.origin e.seen.wire.byte (sent_by k l)

-- a byte taken in, and its origin
pub record Arrival : Type 0 where
  pub byte : Byte
  pub origin : Option ℕ

abbrev pub arrival_in : Option ℕ → Option Byte → List Arrival
arrival_in origin None = []
arrival_in origin (Some b) = record { byte = b; origin = origin } ∷ []

-- all bytes taken in, oldest first
unfoldable pub arrivals : Log → List Arrival
arrivals [] = []
arrivals (e ∷ l) = arrivals l ++ arrival_in e.origin e.seen.wire.byte

-- bytes as request k made an ESC send them
abbrev pub sent_as : ℕ → List Byte → List Arrival
sent_as k bs = map (λ (b : Byte). record { byte = b; origin = Some k }) bs

-- how many requests had been granted at the latest 07 answered yes
unfoldable pub at_recovery : Log → ℕ
at_recovery [] = 0
at_recovery (e ∷ l) = pick e.seen.requests.recovered (length (requests l)) (at_recovery l)

-- and at the latest 00
unfoldable pub at_opening : Log → ℕ
at_opening [] = 0
at_opening (e ∷ l) = pick (is_some e.seen.opening) (length (requests l)) (at_opening l)
