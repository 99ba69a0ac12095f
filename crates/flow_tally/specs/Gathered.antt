-- What was gathered of some datagrams.
use Rattle.std.specs.Prelude.{◌≡◌, ℕ, List, ◌++◌, map}
use Rattle.flow_fold.specs.Pair.{pairs_of}
use Rattle.netflow_five.specs.Mark.{mark_of}
use Rattle.flow_tally.specs.declared.gathered.Gathered.{Gathered}

-- the keys and values of all their records, and the mark of each of them, in order
pub record HasGathered (ds : List (List ℕ)) (gathered : Gathered) : Type 0 where
  pub pairs : gathered.pairs.items ≡ pairs_of ds
  pub marks : gathered.marks.items ≡ map mark_of ds

-- those of these datagrams came to what was gathered before
pub record Adds (ds : List (List ℕ)) (old new : Gathered) : Type 0 where
  pub pairs : new.pairs.items ≡ old.pairs.items ++ pairs_of ds
  pub marks : new.marks.items ≡ old.marks.items ++ map mark_of ds
