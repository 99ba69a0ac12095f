-- What the object of one thread shows.
use Rattle.std.specs.BTreeMap as tree
use Rattle.std.specs.Prelude.{ℕ, List, Option, None, length, reverse, slice_index_or}
use Rattle.std.specs.BTreeMap.{BTreeMap}
use Rattle.std.specs.Ordering.{nat_cmp}
use Rattle.seat_history.specs.Contents.{zeros}
use Rattle.seat_history.specs.Object.{Object}
use Rattle.seat_history.specs.Pairs.{value_in}
use Rattle.seat_history.specs.declared.pair_map.PairMap.{PairMap}
use Rattle.seat_history.specs.declared.plain.Plain.{Plain}

-- how many registers it has
unfoldable pub register_count : Plain → ℕ
register_count plain = length plain.registers.items

-- the words of each register
abbrev pub registers_of : List (List ℕ) → ℕ → List ℕ
registers_of registers reg = slice_index_or registers reg zeros

-- the value under each number
abbrev pub values_of : BTreeMap ℕ (List ℕ) → ℕ → Option (List ℕ)
values_of map number = tree.get nat_cmp map number

-- the value that was given last to each number in a map that stands alone
abbrev pub found_in : PairMap → ℕ → Option (List ℕ)
found_in m number = value_in (reverse m.given.items) number

-- the record that each caller holds
abbrev pub held_of : List (Option (List ℕ)) → ℕ → Option (List ℕ)
held_of held caller = slice_index_or held caller None

-- its contents and held records
unfoldable pub object_of : Plain → Object
object_of plain = record {
  contents = record {
    registers = registers_of plain.registers.items;
    values = values_of plain.map;
  };
  held = held_of plain.held;
}
