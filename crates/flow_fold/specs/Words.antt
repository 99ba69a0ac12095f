-- A value as words.
use Rattle.std.specs.Prelude.{ℕ, List, [], ◌∷◌, slice_index}
use Rattle.flow_fold.specs.declared.value.Value.{Value}

-- packets, octets, first, last and flags
unfoldable pub words_of : Value → List ℕ
words_of v = v.packets ∷ v.octets ∷ v.first ∷ v.last ∷ v.flags ∷ []

-- the value that has these words
unfoldable pub value_of_words : List ℕ → Value
value_of_words ws = record {
  packets = slice_index ws 0;
  octets = slice_index ws 1;
  first = slice_index ws 2;
  last = slice_index ws 3;
  flags = slice_index ws 4;
}
