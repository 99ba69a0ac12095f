-- What becomes of a seat's nodes.
use Rattle.std.specs.Prelude.{◌≡◌, ◌≢◌, ℕ, ◌+◌, true, suc, List, [], ◌∷◌, ◌++◌, length}
use mathlib.Core.Option.{some}
use lib.ListN.{get_elem?}
use Rattle.step_rules.specs.Bags.{IsWithout, times}
use Rattle.step_rules.specs.Claims.{On}
use Rattle.step_rules.specs.SeatData.{SeatData}
use Rattle.step_rules.specs.Steps.{stepped}
use Rattle.step_rules.specs.Views.{counted, stored_view, words_in}
use Rattle.step_rules.specs.World.{has, nodes_of}
use Rattle.step_rules.specs.declared.view.Claim.{Claim}
use Rattle.step_rules.specs.declared.view.Counted.{Counted}
use Rattle.step_rules.specs.declared.view.Kind.TheVariants.{NodeLoad, NodeStore}

-- a free node is held now; it was taken by one store
pub record IsTaken (node : ℕ) (old new : SeatData) : Type 0 where
  pub was_free : has old.free node ≡ true
  pub free : IsWithout node old.free new.free
  pub holding : new.holding ≡ old.holding ++ node ∷ []
  pub same : new ≡ record (stepped (stored_view node 0 0 old.view) old) { free = new.free; holding = new.holding }

-- stores of these words to a node, from the word j on
abbrev pub store_steps : ℕ → ℕ → List ℕ → ℕ → List Counted
store_steps node j [] seen = []
store_steps node j (w ∷ ws) seen = counted (NodeStore node j w) w seen ∷ store_steps node (suc j) ws seen

-- loads of a node that found these words, from the word j on
abbrev pub load_steps : ℕ → ℕ → List ℕ → ℕ → List Counted
load_steps node j [] seen = []
load_steps node j (w ∷ ws) seen = counted (NodeLoad node j) w seen ∷ load_steps node (suc j) ws seen

-- the held node has these words now, and nothing else has changed
pub record IsFilled (node : ℕ) (words : List ℕ) (old new : SeatData) : Type 0 where
  pub words_there : words_in new.view.own node ≡ words
  pub others : (m : ℕ) → m ≢ node → words_in new.view.own m ≡ words_in old.view.own m
  pub nodes : nodes_of new.view.own ≡ nodes_of old.view.own
  pub same : new ≡ stepped (record old.view {
    own = new.view.own;
    trail = old.view.trail ++ store_steps node 0 words (length old.view.seen);
  }) old

-- the node's words, as the seat knows them, were read
pub record IsRead (node : ℕ) (words : List ℕ) (old new : SeatData) : Type 0 where
  pub held : has (nodes_of old.view.own) node ≡ true → words ≡ words_in old.view.own node
  pub claimed : (c : ℕ) (y : Claim) → get_elem? old.view.claims c ≡ some y → On y node → words ≡ y.image
  pub same : new ≡ stepped (record old.view { trail = old.view.trail ++ load_steps node 0 words (length old.view.seen) }) old

-- the held node is free again, by no step
pub record IsPutBack (node : ℕ) (old new : SeatData) : Type 0 where
  pub free : new.free ≡ old.free ++ node ∷ []
  pub holding : IsWithout node old.holding new.holding
  pub same : new ≡ record old { free = new.free; holding = new.holding }

-- every node that was held is free again, by no step
pub record IsAllPutBack (old new : SeatData) : Type 0 where
  pub holding : new.holding ≡ []
  pub free : (n : ℕ) → times n new.free ≡ times n old.free + times n old.holding
  pub same : new ≡ record old { free = new.free; holding = new.holding }
