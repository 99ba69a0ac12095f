-- Bytes that are put in several writes.
use Rattle.std.specs.Prelude.{◌≡◌, ◌+◌, ℕ, List, [], ◌∷◌, length, drop, Result, Ok, Err}
use Rattle.wire_ports.specs.declared.feed.Failed.{Failed}
use Rattle.wire_ports.specs.declared.sink.PutFailed.{PutFailed}

-- what a write may come to: the sink before, the bytes that it is offered, its answer, the sink after
abbrev pub Writes : Type 0 → Type 1
Writes Sink = Sink → List ℕ → Result ℕ Failed → Sink → Type 0

-- writes that took these numbers of the bytes, from one place to another, each offered all bytes from its place on
abbrev pub OffersAll : {Sink : Type 0} → Writes Sink → List ℕ → List ℕ → ℕ → Sink → ℕ → Sink → Type 0
OffersAll writes bytes [] from old to new = (to ≡ from) × (new ≡ old)
OffersAll {Sink} writes bytes (n ∷ counts) from old to new = (next : Sink) × writes old (drop from bytes) (Ok n) next × OffersAll writes bytes counts (from + n) next to new

-- all bytes were taken, or a write failed that was offered all but the first `written`
abbrev pub HasPut : {Sink T : Type 0} → Writes Sink → List ℕ → Sink → Result T PutFailed → Sink → Type 0
HasPut writes bytes old (Ok _) new = (counts : List ℕ) × OffersAll writes bytes counts 0 old (length bytes) new
HasPut {Sink} writes bytes old (Err e) new = (counts : List ℕ) × (last : Sink) × (failed : Failed) × OffersAll writes bytes counts 0 old e.written last
    × writes last (drop e.written bytes) (Err failed) new
