-- What lies between two datagrams of one engine that follow one another.
use Rattle.std.specs.Prelude.{◌≡◌, ℕ, ◌+◌, ◌-◌, ◌%◌, ◌^◌, Bool, not, List, [], ◌∷◌, nat_lt}
use Rattle.std.specs.List.{count_by, filter, sum}
use Rattle.netflow_five.specs.declared.seq_mark.SeqMark.{SeqMark}

-- the sequence number that comes next where no flow is lost
abbrev pub next_sequence : SeqMark → ℕ
next_sequence mark = (mark.sequence + mark.count) % 2 ^ 32

-- the second's sequence number less the first's and less the first's flows, modulo 2^32
abbrev pub gap_between : SeqMark → SeqMark → ℕ
gap_between first second = (second.sequence + (2 ^ 32 - next_sequence first)) % 2 ^ 32

-- the gap between each two that follow one another
abbrev pub gaps : List SeqMark → List ℕ
gaps [] = []
gaps (first ∷ []) = []
gaps (first ∷ second ∷ later) = gap_between first second ∷ gaps (second ∷ later)

-- whether a gap counts as flows that were lost; a greater one is a reset
abbrev pub is_loss : ℕ → Bool
is_loss gap = nat_lt gap (2 ^ 31)

-- the sum of the gaps that are losses
unfoldable pub lost_among : List ℕ → ℕ
lost_among gaps = sum (filter is_loss gaps)

-- how many gaps are resets
unfoldable pub resets_among : List ℕ → ℕ
resets_among gaps = count_by (λ gap. not (is_loss gap)) gaps

-- each datagram has the number that comes next after the one before it
abbrev pub IsUnbroken : List SeqMark → Type 0
IsUnbroken [] = Unit {0}
IsUnbroken (first ∷ []) = Unit {0}
IsUnbroken (first ∷ second ∷ later) = (second.sequence ≡ next_sequence first) × IsUnbroken (second ∷ later)
