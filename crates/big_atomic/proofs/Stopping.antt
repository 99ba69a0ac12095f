-- What a seat knows within a read of a cell's inline words, and within a refresh of them.
use Rattle.std.proofs.Common.{◌≡◌, ℕ, ◌<◌, length, inr, sym, subst, arith}
use Rattle.step_rules.proofs.Numbers.Places.{at_there}
use Rattle.step_rules.proofs.Rely.Writers.{locked_flies}
use Rattle.step_rules.specs.Claims.{OWN, On}
use Rattle.step_rules.specs.Kinds.Node.{Reads}
use Rattle.step_rules.specs.Kinds.Versions.{MayCopy}
use Rattle.step_rules.specs.SeatData.{IsOf, IsSeat, ObjectData, SeatData}
use Rattle.step_rules.specs.Steps.{MayLoad, stepped}
use Rattle.step_rules.specs.Versions.{IsEven}
use Rattle.step_rules.specs.Views.{claim_of, silent}
use Rattle.step_rules.specs.declared.layout.TheConstants.{NODE_WIDTH}
use Rattle.step_rules.specs.declared.view.Stage.TheVariants.{Locked}

-- the first j inline words were read under an even version
pub record HasRead (shared : ObjectData) (place j : ℕ) (now : SeatData) : Type 0 where
  pub ours : IsOf shared now
  pub cell : now.view.reader.cell ≡ place
  pub even : IsEven now.view.reader.version
  pub count : length now.view.reader.words ≡ j

-- the cell is locked from the version u, and has the first j words of the node that the change installed
pub record HasCopied (shared : ObjectData) (place node u j : ℕ) (now : SeatData) : Type 0 where
  pub ours : IsOf shared now
  pub law : IsSeat now
  pub locked : now.view.writer.stage ≡ Locked
  pub cell : now.view.writer.cell ≡ place
  pub node_is : now.view.writer.node ≡ node
  pub version : now.view.writer.version ≡ u
  pub stores : now.view.writer.stores ≡ j

module _ {shared : ObjectData} {place node u j : ℕ} {now : SeatData} (h : HasCopied shared place node u j now) where
  -- the Own claim still stands on the node
  own_claim : On (claim_of OWN now.view) node
  own_claim = subst (On (claim_of OWN now.view)) h.node_is (h.law.sound.writer.own (locked_flies now.view.writer h.locked))

  pub may_glance : MayLoad node now
  may_glance = let four = h.law.sound.claims.four in inr (OWN, claim_of OWN now.view, at_there now.view.claims OWN (silent 0) (omega arith), own_claim)

  -- the word that a glance found there may be stored
  pub may_copy : (x : ℕ) (next : SeatData) → j < NODE_WIDTH → Reads node j x now.view → next ≡ stepped now.view now → MayCopy place j x next.view
  may_copy x next low reads after =
      let four = h.law.sound.claims.four in
      subst (λ (s : SeatData). MayCopy place j x s.view) (sym after) (record {
        locked = h.locked;
        cell = h.cell;
        next = h.stores;
        inside = low;
        word = reads.claim OWN (claim_of OWN now.view) (at_there now.view.claims OWN (silent 0) (omega arith)) own_claim;
      })
