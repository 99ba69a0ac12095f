use Rattle.std.proofs.Common.{◌∙◌, sym}
use Rattle.big_atomic.proofs.Deciding.{past_ours}
use Rattle.big_atomic.proofs.Preparing.{node_for}
use Rattle.big_atomic.proofs.Renewing.{give_begun, give_front, give_may, give_near, give_noted, give_unlocked}
use Rattle.big_atomic.proofs.tests.stops.give_until.Goals as goal

pub install_until-requires : goal.install_until-requires
install_until-requires c =
    let r = node_for c.args.turn.kept c.requires.past.1 (sym c.eq.ensures ∙ c.if-eq.false) c.in-Some.ensures.ready c.ready_node.ensures.law in
    record {
      ours = past_ours r.past;
      may = give_may r;
      front = give_front r;
      noted = give_noted r;
      found = give_near r;
      begun = give_begun r;
      unlocked = give_unlocked r;
    }
