-- The links that a seat notes, where it steps and where its change drops none of them.
use Rattle.std.proofs.Common.{◌≡◌, ◌∙◌, ℕ, List, [], ◌∷◌, take, drop, length, refl, sym, ap}
use Rattle.seat_history.specs.declared.call.Call.{Call}
use Rattle.step_rules.specs.Records.{dropped_count}
use Rattle.step_rules.specs.SeatData.{SeatData}
use Rattle.step_rules.specs.Steps.{DropsNoted, OnlyStepped, stepped}
use Rattle.step_rules.specs.Views.{claimed_edit, claimed_pages, claimed_records}
use Rattle.step_rules.specs.World.{nodes_of}
use Rattle.step_rules.specs.declared.view.Held.{Held}
use Rattle.step_rules.specs.declared.view.View.{View}

-- a step that gave the seat this view, whatever it leaves noted
pub only_stepped : {v : View} {links : List ℕ} (before now : SeatData) → now ≡ record (stepped v before) { noted = links } → OnlyStepped before now
only_stepped before now is = is ∙ (λ i. record (stepped (sym is i).view before) { noted = (sym is i).noted })

pub only_stepped_then : (before mid now : SeatData) → OnlyStepped before mid → OnlyStepped mid now → OnlyStepped before now
only_stepped_then before mid now p q = q ∙ ap (λ (z : SeatData). record (stepped now.view z) { noted = now.noted }) p

one_alone : (pages : List Held) → nodes_of (drop 1 (take 1 pages)) ≡ []
one_alone [] = refl
one_alone (page ∷ pages) = refl

-- a change that drops one node needs no link noted
pub drops_alone : (call : Call) (seat : SeatData) → dropped_count (length (claimed_records seat.view)) (claimed_edit call seat.view) ≡ 1 → seat.noted ≡ [] → DropsNoted call seat
drops_alone call seat one none = ap (λ n. nodes_of (drop 1 (take n (claimed_pages seat.view)))) one ∙ (one_alone (claimed_pages seat.view) ∙ sym none)
