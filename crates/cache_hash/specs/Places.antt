-- What a seat knows of a key at its last stand, and that a try which came late stands later.
use Rattle.std.specs.Prelude.{◌≡◌, ℕ, ◌*◌, ◌<◌, ◌≤◌, List, [], ◌∷◌, Option, Some, None, length, ⊤}
use Rattle.cache_hash.specs.Calls.{value_at}
use Rattle.cache_hash.specs.declared.answers.Insert.{Insert as InsertAnswer}
use Rattle.cache_hash.specs.declared.answers.Insert.TheVariants.{Present as InsertPresent}
use Rattle.cache_hash.specs.declared.answers.Replace.{Replace as ReplaceAnswer}
use Rattle.cache_hash.specs.declared.answers.Replace.TheVariants.{Found as ReplaceFound, Absent as ReplaceAbsent}
use Rattle.seat_history.specs.declared.key.KeyWords.{KeyWords}
use Rattle.step_rules.specs.SeatData.{ObjectData, SeatData}
use Rattle.step_rules.specs.declared.view.Stand.{Stand}

-- the place of the last of these stands; 0 where there is none
abbrev pub last_place : List Stand → ℕ
last_place [] = 0
last_place (s ∷ []) = s.place
last_place (s ∷ t ∷ later) = last_place (t ∷ later)

-- at the place of the seat's last stand the key had this value
pub record KnowsKey (key : KeyWords) (there : Option (List ℕ)) (seat : SeatData) : Type 0 where
  pub within : last_place seat.view.stands ≤ length seat.view.seen
  pub value : value_at seat.view (last_place seat.view.stands) key ≡ there

-- the last stand is at a later place than the one before, and no place is beyond what the plan allows: so tries that came late end
pub record StandsLater (shared : ObjectData) (before after : SeatData) : Type 0 where
  pub later : last_place before.view.stands < last_place after.view.stands
  pub within : last_place after.view.stands ≤ shared.plan.seats * shared.plan.changes

-- an insert that found the key there came late
abbrev pub CameLateToInsert : ObjectData → KeyWords → InsertAnswer → SeatData → SeatData → Type 0
CameLateToInsert shared key (InsertPresent val) before after = KnowsKey key (Some val) after × StandsLater shared before after
CameLateToInsert shared key _ before after = ⊤

-- a replace that found another value, or none, came late
abbrev pub CameLateToReplace : ObjectData → KeyWords → ReplaceAnswer → SeatData → SeatData → Type 0
CameLateToReplace shared key (ReplaceFound val) before after = KnowsKey key (Some val) after × StandsLater shared before after
CameLateToReplace shared key ReplaceAbsent before after = KnowsKey key None after × StandsLater shared before after
CameLateToReplace shared key _ before after = ⊤
