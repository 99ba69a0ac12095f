-- What comes of a script, as text.
use Rattle.std.specs.Prelude.{ℕ, ◌+◌, ◌==◌, Bool, List, [], ◌∷◌, ◌++◌, codes, decimal, if◌then◌else◌}
use Rattle.std.specs.List.{enumerate_from, flat_map, list_all}
use Rattle.seat_history.specs.declared.key.KeyWords.{KeyWords}
use Rattle.seat_history.specs.declared.reply.Reply.{Reply}
use Rattle.seat_history.specs.declared.reply.Reply.TheVariants.{Words, Done, Yes, No, Absent, Val, Present, Found, Gone, Full}
use Rattle.step_rules.specs.declared.counts.Counts.{Counts}
use Rattle.call_script.specs.declared.driven.Driven.{Driven}

-- all are zeros
abbrev pub is_blank : List ℕ → Bool
is_blank words = list_all (λ word. word == 0) words

-- without the zeros at the end
abbrev pub trimmed : List ℕ → List ℕ
trimmed [] = []
trimmed (word ∷ words) = if is_blank (word ∷ words) then [] else word ∷ trimmed words

-- numbers with commas between them, without zeros at the end, but at least one number
unfoldable pub tuple_text : List ℕ → List ℕ
tuple_text [] = []
tuple_text (word ∷ words) = decimal word ++ flat_map (λ n. 44 ∷ decimal n) (trimmed words)

-- a word and a tuple
unfoldable pub labelled : List ℕ → List ℕ → List ℕ
labelled label words = label ++ tuple_text words

-- a reply
unfoldable pub reply_text : Reply → List ℕ
reply_text (Words rec) = tuple_text rec
reply_text Done = codes "done"
reply_text Yes = codes "yes"
reply_text No = codes "no"
reply_text Absent = codes "absent"
reply_text (Val val) = tuple_text val
reply_text (Present val) = labelled (codes "present ") val
reply_text (Found val) = labelled (codes "found ") val
reply_text (Gone val) = labelled (codes "gone ") val
reply_text (Full need free) = codes "full need " ++ decimal need ++ codes " free " ++ decimal free

-- the line of a reply
abbrev pub reply_line : Reply → List ℕ
reply_line reply = reply_text reply ++ 10 ∷ []

-- the line of a register, where it isn't all zeros
unfoldable pub register_line : ℕ × List ℕ → List ℕ
register_line register =
    if is_blank register.1 then [] else codes "register " ++ decimal register.0 ++ 32 ∷ [] ++ tuple_text register.1 ++ 10 ∷ []

-- the line of a pair
unfoldable pub pair_line : KeyWords × List ℕ → List ℕ
pair_line pair = codes "record " ++ tuple_text (pair.0.k0 ∷ pair.0.k1 ∷ []) ++ 32 ∷ [] ++ tuple_text pair.1 ++ 10 ∷ []

-- the line of the nodes, where none is retired: how many there are, and how many of them are free and live
unfoldable pub nodes_line : Counts → List ℕ
nodes_line counts =
    codes "nodes " ++ decimal (counts.free + counts.live) ++ codes " free " ++ decimal counts.free ++ codes " live " ++ decimal counts.live ++ 10 ∷ []

-- the replies, the registers and the pairs, each in its order, and the nodes
abbrev pub driven_text : Driven → List ℕ
driven_text driven = flat_map reply_line driven.replies ++ flat_map register_line (enumerate_from 0 driven.registers) ++ flat_map pair_line driven.pairs
    ++ nodes_line driven.counts
