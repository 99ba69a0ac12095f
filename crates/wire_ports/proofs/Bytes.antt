-- Bytes read or written in several calls.
use Rattle.std.proofs.Common.{◌≡◌, ◌∙◌, ℕ, ◌+◌, ◌-◌, ◌≤◌, ap, ap₂, sym, Option, Some, None, List, ◌++◌, length, take, drop, append_assoc, arith, length-take-le}
use Rattle.std.proofs.Math.Seq.{take-append-add}
use Rattle.std.proofs.lemmas.List.{length-append, length-drop, length-take, take-append-drop, take-append-le, take-take, drop-take}
use Rattle.std.proofs.lemmas.List.Edits.{take-paste}
use lib.Seq.{paste}
use Rattle.wire_ports.specs.Bytes.{IsReadOf, Appends}

-- one read after the other
pub after_more : (a b c : Option (List ℕ)) (xs ys : List ℕ) → IsReadOf a xs b → IsReadOf b ys c → IsReadOf a (xs ++ ys) c
after_more None None c xs ys first second = second
after_more None (Some rest) c xs ys first second = absurd (cc first)
after_more (Some whole) None c xs ys first second = let no : None ≡ Some first.0 = first.2 in absurd (cc no)
after_more (Some whole) (Some rest) c xs ys first second =
    let same : rest ≡ first.0 = cc (first.2) in
    (second.0, first.1 ∙ ap (λ (z : List ℕ). xs ++ z) (sym same ∙ second.1) ∙ sym (append_assoc xs ys second.0), second.2)

-- one write after the other
pub appends_more : (a b c : Option (List ℕ)) (xs ys : List ℕ) → Appends a xs b → Appends b ys c → Appends a (xs ++ ys) c
appends_more None None c xs ys first second = second
appends_more None (Some rest) c xs ys first second = absurd (cc first)
appends_more (Some whole) None c xs ys first second = absurd (cc first)
appends_more (Some whole) (Some rest) c xs ys first second =
    let same : rest ≡ whole ++ xs = cc first in
    second ∙ ap (λ (z : List ℕ). Some z) (ap (λ (z : List ℕ). z ++ ys) same ∙ append_assoc whole xs ys)

-- the first bytes, and then some more of them
pub take_add : (n m : ℕ) (xs : List ℕ) → take (n + m) xs ≡ take n xs ++ take m (drop n xs)
take_add n m xs = sym (take-append-drop n (take (n + m) xs)) ∙ ap₂ (λ (x y : List ℕ). x ++ y) (take-take n (n + m) xs (omega arith)) (drop-take n m xs)

-- a read fills what stands behind the first bytes
pub read_at : (lent into behind : List ℕ) (filled n : ℕ) → filled ≤ length lent → n ≤ length into → take (filled + n) (take filled lent ++ (into ++ behind)) ≡ take filled lent ++ take n into
read_at lent into behind filled n inside within =
    ap (λ (k : ℕ). take (k + n) (take filled lent ++ (into ++ behind))) (sym (length-take-le filled lent inside))
    ∙ take-append-add (take filled lent) (into ++ behind) n
    ∙ ap (λ (z : List ℕ). take filled lent ++ z) (take-append-le n into behind within)

-- a list is made longer, and a read fills what stands behind its first bytes
pub read_behind : (bytes resized lent zeros into behind : List ℕ) (filled end n : ℕ) → filled ≤ length bytes → filled ≤ end → n ≤ length into
    → resized ≡ take end bytes ++ zeros → lent ≡ resized → take (filled + n) (take filled lent ++ (into ++ behind)) ≡ take filled bytes ++ take n into
read_behind bytes resized lent zeros into behind filled end n inside below within longer same =
    let front : take filled lent ≡ take filled bytes = ap (take filled) (same ∙ longer) ∙ take-append-le filled
    (take end bytes) zeros (omega (arith, length-take end bytes)) ∙ take-take filled end bytes below in
    let enough : filled ≤ length lent = omega (arith, ap length (same ∙ longer), length-append (take end bytes) zeros, length-take end bytes) in
    read_at lent into behind filled n enough within ∙ ap (λ (z : List ℕ). z ++ take n into) front

-- the bytes behind the first ones are moved to the front
pub moved_to_front : (buffer moved : List ℕ) (filled count : ℕ) → filled ≤ length buffer → count ≤ filled → moved ≡ paste buffer 0 (drop count buffer) (filled - count)
    → take (filled - count) moved ≡ drop count (take filled buffer)
moved_to_front buffer moved filled count inside below is =
    let left = filled - count in
    let none : left ≡ 0 + left = omega arith in
    let whole : count + left ≡ filled = omega arith in
    ap (take left) is ∙ ap (λ (k : ℕ). take k (paste buffer 0 (drop count buffer) left)) none
    ∙ take-paste buffer 0 (drop count buffer) left (omega arith) (omega (arith, length-drop count buffer))
    ∙ sym (drop-take count left buffer) ∙ ap (λ (k : ℕ). drop count (take k buffer)) whole
