-- What stays where nodes and numbers of one seat become those of another, or a seat's retired nodes its own.
use Rattle.std.proofs.Common.{le_refl, ◌≡◌, ◌≢◌, ℕ, ◌+◌, [], refl, sym}
use Rattle.std.proofs.lemmas.List.{append-nil}
use Rattle.step_rules.proofs.Rely.Advance.{none_other, stable}
use Rattle.step_rules.proofs.Rely.Writers.{locks_stay}
use Rattle.step_rules.proofs.World.Chains.{cell_stays}
use Rattle.step_rules.specs.Cells.{CellsAgree}
use Rattle.step_rules.specs.Layout.{claim_at}
use Rattle.step_rules.specs.Seats.{Leaves, SeatOk}
use Rattle.step_rules.specs.World.{Class, Live, Own, Retired, World}
use Rattle.step_rules.specs.Writers.{sites}
use Rattle.step_rules.specs.declared.plan.Plan.{Plan}
use Rattle.step_rules.specs.declared.view.View.{View}

-- the classes and holders become these; what the seat `from` had changes hands, and nothing else
pub record Hands (W : World) (from : ℕ) (class : ℕ → Class) (holder : ℕ → ℕ) : Type 0 where
  pub stays : (n : ℕ) (c : Class) → c ≢ Own from → c ≢ Retired from → W.class n ≡ c → class n ≡ c
  -- a node that another seat has claimed becomes no seat's own
  pub taken : (w n t : ℕ) → W.guard w ≡ n + 1 → W.class n ≢ Own from → class n ≡ Own t → W.class n ≡ Own t
  pub held : (s x : ℕ) → s ≢ from → W.holder x ≡ s → holder x ≡ s

module _ (p : Plan) (W : World) (from : ℕ) (class : ℕ → Class) (holder : ℕ → ℕ) (hands : Hands W from class holder) where
  abbrev pub handed : World
  handed = record W { class = class; holder = holder }

  pub handed_cells : CellsAgree p W → CellsAgree p handed
  handed_cells c = record { cell = λ k lt. cell_stays W handed refl refl refl (λ n e. (hands.stays n (Live k) (λ q. cc) (λ q. cc) e, refl)) (c.cell k lt) }

  pub handed_leaves : (s : ℕ) (u : View) → s ≢ from → SeatOk p W s u → Leaves p s u.numbers W handed []
  handed_leaves s u apart ok = record {
    log = sym (append-nil W.log);
    by = λ x e. tt;
    holder = λ x. hands.held s x apart;
    own = λ n. hands.stays n (Own s) (λ q. apart cc) (λ q. cc);
    words = λ n e. refl;
    retired = λ n. hands.stays n (Retired s) (λ q. cc) (λ q. apart cc);
    word = λ x c h lt. refl;
    guard = λ x c h lt. refl;
    quiet = λ w n e g. g;
    image = λ x c n h lt g. refl;
    taken = λ x c n t h lt g e. hands.taken (claim_at x c) n t g (none_other ok from x c n apart h lt g) e;
    same = λ k none. refl;
    falls = λ k none. le_refl (W.backup k);
    chain = λ k none. refl;
    fresh = λ x c n k h lt g e. tt;
    locks = locks_stay s (sites W) (sites handed) (λ k. refl) (λ k. refl) (λ k. refl) (λ k u. refl);
  }

  pub handed_seat : (s : ℕ) (u : View) → s ≢ from → SeatOk p W s u → SeatOk p handed s u
  handed_seat s u apart ok = stable ok handed [] (handed_leaves s u apart ok)
