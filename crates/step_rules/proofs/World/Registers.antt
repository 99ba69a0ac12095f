-- Registers, whose chain is one node with the record and the next word 0.
use Rattle.std.proofs.Common.{◌≡◌, ℕ, ◌-◌, ◌<◌, true, false, cond, eqb, List, [], ◌∷◌, ◌++◌, length, take, get_or, sym}
use Rattle.std.proofs.Common.{ap, ◌∙◌, arith, ⊎_elim}
use Rattle.std.proofs.Math.Seq.{get_or-append_seam, take-append_seam}
use Rattle.std.proofs.lemmas.Bool.{eqb-true, false≢true, or_cases}
use Rattle.std.proofs.lemmas.List.{take_all}
use Rattle.seat_history.specs.Contents.{blank}
use Rattle.seat_history.specs.History.{contents_from, state_at}
use Rattle.seat_history.specs.declared.entry.Entry.{Entry}
use Rattle.seat_history.specs.declared.words.TheConstants.{WIDTH}
use Rattle.step_rules.proofs.Order.Edits.{one_node}
use Rattle.step_rules.proofs.Order.RecordsTell.{register_records}
use Rattle.step_rules.specs.Cells.{register_chain}
use Rattle.step_rules.specs.Claims.{IsClaim}
use Rattle.step_rules.specs.Records.{records_of}
use Rattle.step_rules.specs.World.{END, has, link, next_of}
use Rattle.step_rules.specs.declared.layout.TheConstants.{NODE_WIDTH}
use Rattle.step_rules.specs.declared.plan.Plan.{Plan}
use Rattle.step_rules.specs.declared.view.Claim.{Claim}
use Rattle.step_rules.specs.declared.view.Held.{Held}

-- the record of a claim's register where the claim began to stand
abbrev pub record_at : List Entry → Claim → List ℕ
record_at seen x = (state_at seen x.at).registers x.cell

-- the claimed chain of a register
pub claim_chain : (p : Plan) (seen : List Entry) (x : Claim) (n : ℕ) → IsClaim p seen x n → x.cell < p.registers → x.pages ≡ register_chain n (record_at seen x)
claim_chain p seen x n is inside = one_node x.pages n (record_at seen x) (ap (λ l. link l 0) is.heads ∙ omega arith) is.linked (λ i h at. (is.node i h at).wide)
    (is.records
    ∙ (register_records p (take x.at seen) x.cell inside
    ∙ ap (λ (l : List Entry). (contents_from blank l).registers x.cell ∷ []) (take_all (length (take x.at seen)) (take x.at seen) (omega arith))))
    is.counted

first_words : (h g : Held) (r : List Held) → h ∷ r ≡ g ∷ [] → h.words ≡ g.words
first_words h g r e = ap (λ (l : List Held). (get_or l 0 g).words) e

-- a claim's node has the register's record, and the next word 0
pub claim_record : (p : Plan) (seen : List Entry) (x : Claim) (n : ℕ) → IsClaim p seen x n → x.cell < p.registers → x.image ≡ record_at seen x ++ 0 ∷ []
claim_record p seen x n is inside = first_words (record { node = n; words = x.image }) (record { node = n; words = record_at seen x ++ 0 ∷ [] }) is.rest
    (sym is.heads ∙ claim_chain p seen x n is inside)

-- the words of a register's node
pub page_record : (node : ℕ) (ws rec : List ℕ) → ws ≡ rec ++ 0 ∷ [] → length rec ≡ WIDTH → (records_of (record { node = node; words = ws } ∷ []) ≡ rec ∷ []) × (next_of ws ≡ 0)
page_record node ws rec is wide =
    let z : get_or ws (NODE_WIDTH - 1) 0 ≡ 0 = ap (λ l. get_or l (NODE_WIDTH - 1) 0) is ∙ (ap (λ i. get_or (rec ++ 0 ∷ []) i 0) (sym wide) ∙ get_or-append_seam rec 0 [] 0) in
    let r : take WIDTH ws ≡ rec = ap (take WIDTH) is ∙ (ap (λ i. take i (rec ++ 0 ∷ [])) (sym wide) ∙ take-append_seam rec (0 ∷ [])) in
    (ap (λ y. cond (eqb y END) [] (take WIDTH ws ∷ [])) z ∙ ap (λ y. y ∷ []) r, ap (λ y. cond (eqb y END) 0 y) z)

pub one_has : (n m : ℕ) → has (n ∷ []) m ≡ true → n ≡ m
one_has n m h = ⊎_elim (λ e. eqb-true n m e) (λ e. absurd (false≢true e)) (or_cases (eqb n m) false h)
