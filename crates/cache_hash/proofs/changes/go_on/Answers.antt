use Rattle.cache_hash.proofs.Turning.{is_due, stays_known}
use Rattle.cache_hash.proofs.changes.go_on.Goals as goal

pub tell-requires : goal.tell-requires
tell-requires c = record { past = (c.requires.past.0, stays_known c.in-Stays.there c.in-Stays.is c.requires.past.1) }

pub returns-in-Stays : goal.returns-in-Stays
returns-in-Stays c = record {
  turned = λ b d. let ends = c.tell.ensures.ends b (stays_known c.in-Stays.there c.in-Stays.is d) in (ends.0, (c.args.asked.change, ends.1));
}

pub make_change-requires : goal.make_change-requires
make_change-requires c = record { past = (c.requires.past.0, is_due c.in-Changes.due c.in-Changes.is c.requires.past.1) }

pub returns-in-Changes : goal.returns-in-Changes
returns-in-Changes c = record { turned = λ b d. c.make_change.ensures.turned b (is_due c.in-Changes.due c.in-Changes.is d) }
