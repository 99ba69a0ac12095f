-- A find as far as it has come.
use Rattle.std.specs.Prelude.{◌≡◌, ℕ, ◌<◌, List, Option, length}
use Rattle.big_atomic.specs.Calling.{AreLooks, Goes, IsLooked, Paces}
use Rattle.big_atomic.specs.Ready.{IsReady}
use Rattle.big_atomic.specs.Turns.{claim_stores}
use Rattle.cache_hash.specs.Calls.{value_at}
use Rattle.cache_hash.specs.Firsts.{BeginsMissed, HasFoundFirst, HasMissedFirst}
use Rattle.seat_history.specs.Key.{key_number}
use Rattle.seat_history.specs.declared.key.KeyWords.{KeyWords}
use Rattle.step_rules.specs.Claims.{HOLD, OWN}
use Rattle.step_rules.specs.History.{key_cell}
use Rattle.step_rules.specs.SeatData.{IsSeat, ObjectData, SeatData}
use Rattle.step_rules.specs.Steps.{OnlyStepped}
use Rattle.step_rules.specs.Views.{claim_of}
use Rattle.step_rules.specs.declared.view.Counted.{Counted}

-- looks and loads of a call on the cell, from its first look on; one claim serves its turn
pub record Finding (cell : ℕ) (before now : SeatData) : Type 0 where
  pub steps : List Counted
  pub look : ℕ
  pub goes : (found : Option ℕ) → Goes cell found steps before now
  pub looked : IsLooked cell steps look before now
  pub looks : AreLooks steps
  pub paced : Paces 0 1 steps
  pub same : OnlyStepped before now
  pub retired : now.view.retired ≡ before.view.retired
  pub hold : claim_of HOLD now.view ≡ claim_of HOLD before.view
  pub own : claim_of OWN now.view ≡ claim_of OWN before.view

-- a find that began with a ready seat has read the inline words of its key's bucket, and they tell the key's value
pub record KnowsFirst (shared : ObjectData) (key : KeyWords) (found : Option (List ℕ)) (before now : SeatData) : Type 0 where
  pub ready : IsReady shared before
  pub some : 0 < shared.plan.buckets
  pub read : HasFoundFirst (key_cell before.view.plan (key_number key)) key found before now
  pub law : IsSeat now

-- they don't tell it
pub record HasMissed (shared : ObjectData) (key : KeyWords) (cell : ℕ) (before now : SeatData) : Type 0 where
  pub ready : IsReady shared before
  pub some : 0 < shared.plan.buckets
  pub cell_is : cell ≡ key_cell before.view.plan (key_number key)
  pub missed : HasMissedFirst cell key before now
  pub law : IsSeat now

-- so it stored claims, has only looked at that cell and loaded besides, and the key's value at the end of what is seen is this
pub record KnowsValue (shared : ObjectData) (key : KeyWords) (found : Option (List ℕ)) (before now : SeatData) : Type 0 where
  pub ready : IsReady shared before
  pub some : 0 < shared.plan.buckets
  pub finding : Finding (key_cell before.view.plan (key_number key)) before now
  pub missed : BeginsMissed (key_cell before.view.plan (key_number key)) key finding.steps
  pub stored : 0 < claim_stores finding.steps
  pub value : value_at now.view (length now.view.seen) key ≡ found
