-- Fronts of a claimed chain: own nodes that a change puts in place of the nodes that fall out.
use Rattle.std.specs.Prelude.{◌≡◌, ℕ, true, List, [], ◌∷◌, ◌++◌, length, take, drop}
use Rattle.step_rules.specs.Records.{Edit, dropped_count, edited, fresh_records, need, records_of}
use Rattle.step_rules.specs.Views.{claimed_pages, claimed_records, followed, words_in}
use Rattle.step_rules.specs.World.{Linked, Once, has, link, nodes_of}
use Rattle.step_rules.specs.declared.view.Held.{Held}
use Rattle.step_rules.specs.declared.view.View.{View}

-- as many own nodes from n on as the change needs
abbrev pub front_of : ℕ → Edit → View → List Held
front_of n change v = followed v.own n (need (length (claimed_records v)) change)

-- what it keeps of the claimed chain
abbrev pub rest_of : Edit → View → List Held
rest_of change v = drop (dropped_count (length (claimed_records v)) change) (claimed_pages v)

-- what falls out of it
abbrev pub fallen_of : Edit → View → List Held
fallen_of change v = take (dropped_count (length (claimed_records v)) change) (claimed_pages v)

-- own nodes in this order, each with its words
abbrev pub with_words : List Held → List ℕ → List Held
with_words own [] = []
with_words own (n ∷ ns) = record { node = n; words = words_in own n } ∷ with_words own ns

-- these nodes go before what is kept, and the records of that chain are the claimed ones after the change
pub record IsFront (n : ℕ) (change : Edit) (v : View) : Type 0 where
  pub own : (m : ℕ) → has (nodes_of (front_of n change v)) m ≡ true → has (nodes_of v.own) m ≡ true
  pub once : Once (nodes_of (front_of n change v))
  pub linked : Linked (front_of n change v) (link (rest_of change v) 0)
  pub records : records_of (front_of n change v) ≡ fresh_records (claimed_records v) change
  pub whole : records_of (front_of n change v ++ rest_of change v) ≡ edited (claimed_records v) change
