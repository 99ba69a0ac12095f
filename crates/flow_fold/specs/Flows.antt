-- Keys with their values.
use Rattle.std.specs.Prelude.{List, Option}
use Rattle.std.specs.BTreeMap.{is_at}
use Rattle.std.specs.List.Sorted.{IsStrictlySortedBy}
use Rattle.std.specs.Map.{keys_of, lookup}
use Rattle.flow_fold.specs.Key.{key_cmp}
use Rattle.flow_fold.specs.declared.key.Key.{Key}
use Rattle.flow_fold.specs.declared.value.Value.{Value}

-- pairs of a key and a value, in a row
abbrev pub Flows : Type 0
Flows = List (Key × Value)

-- each key is below those after it
abbrev pub HasRisingKeys : Flows → Type 0
HasRisingKeys flows = IsStrictlySortedBy key_cmp (keys_of flows)

-- the value of the first pair that has this key
abbrev pub value_in : Flows → Key → Option Value
value_in flows key = lookup (is_at (key_cmp key)) flows
