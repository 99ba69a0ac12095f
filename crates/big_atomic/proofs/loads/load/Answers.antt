use Rattle.std.proofs.Common.{None, refl, rules}
use Rattle.big_atomic.proofs.Answered.{goes_of, may_answer}
use Rattle.big_atomic.proofs.InlineReads.{read_once, read_ours}
use Rattle.big_atomic.proofs.Loaded.{fallen, fallen_caused, falls_back, inline_loaded, inline_may_end, inline_ready}
use Rattle.big_atomic.proofs.Reading.{has_read, load_ends, load_ready, loaded}
use Rattle.cache_copy.specs.declared.answers.Inline.TheVariants.{Words}
use Rattle.big_atomic.proofs.loads.load.Goals as goal

-- the inline words answer
pub stand_now-requires-clause-may : goal.stand_now-requires-clause-may
stand_now-requires-clause-may c = may_answer (inline_may_end c.requires.ready c.requires.there
    (read_once (Words c.in-Words.words) c.in-Words.ensures.answer c.in-Words.ensures.only c.in-Words.ensures.law) c.in-Words.ensures.answer.first c.record_of-rec.ensures)

pub returns-in-Words : goal.returns-in-Words
returns-in-Words c =
    let read = read_once (Words c.in-Words.words) c.in-Words.ensures.answer c.in-Words.ensures.only c.in-Words.ensures.law in
    let first = c.in-Words.ensures.answer.first in
    record {
      ready = inline_ready c.requires.ready c.requires.there read first c.record_of-rec.ensures c.stand_now.new.seat c.stand_now.ensures.seat c.stand_now.ensures.law;
      loaded = inline_loaded c.requires.ready c.requires.there read first c.record_of-rec.ensures c.stand_now.new.seat c.stand_now.ensures.seat c.stand_now.ensures.law;
    }

-- a claim does
pub answer_now-requires : goal.answer_now-requires
answer_now-requires c =
    let f = falls_back c.read_inline.result (search rules) (read_once c.read_inline.result c.read_inline.ensures.answer c.read_inline.ensures.only c.read_inline.ensures.law)
    c.claim_record-found.ensures.claimed c.claim_record-found.ensures.few in
    record {
      ours = goes_of (c.claim_record-found.ensures.claimed.0.0.goes None) (read_ours c.read_inline.ensures.only c.requires.ready.ours);
      may = may_answer (load_ends (has_read c.requires.ready c.requires.there (fallen f)));
    }

pub returns-in_default : goal.returns-in_default
returns-in_default c =
    let f = falls_back c.read_inline.result (search rules) (read_once c.read_inline.result c.read_inline.ensures.answer c.read_inline.ensures.only c.read_inline.ensures.law)
    c.claim_record-found.ensures.claimed c.claim_record-found.ensures.few in
    let r = has_read c.requires.ready c.requires.there (fallen f) in
    record {
      ready = load_ready r refl c.args.shared.now c.answer_now.new.seat c.requires.ready c.answer_now.ensures.seat c.answer_now.ensures.law;
      loaded = loaded r refl (fallen_caused f) f.few c.answer_now.new.seat c.answer_now.ensures.seat c.answer_now.ensures.law;
    }
