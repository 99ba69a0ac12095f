-- Seats in whose claim words nothing stands.
use Rattle.std.proofs.Common.{◌≡◌, ℕ, ◌<◌, suc, zero, Bool, true, false, cond, List, length, replicate, refl, sym, ap, ◌∙◌, arith, ⊎_elim}
use Rattle.std.proofs.lemmas.Bool.{cases_eq, false≢true}
use Rattle.std.proofs.lemmas.List.{length-replicate}
use mathlib.Core.Option.{some, some-injective, some-ne-none}
use lib.ListN.{get_elem?}
use Rattle.seat_history.specs.declared.entry.Entry.{Entry}
use Rattle.step_rules.specs.Claims.{ClaimsSound, OWN, On, SeatClaims}
use Rattle.step_rules.specs.Layout.{claim_at}
use Rattle.step_rules.specs.SeatData.{NoneAnnounced}
use Rattle.step_rules.specs.Seats.{SeatOk}
use Rattle.step_rules.specs.Views.{claim_of, number, silent}
use Rattle.step_rules.specs.World.{World, has}
use Rattle.step_rules.specs.declared.layout.TheConstants.{CLAIMS}
use Rattle.step_rules.specs.declared.plan.Plan.{Plan}
use Rattle.step_rules.specs.declared.view.Claim.{Claim}
use Rattle.step_rules.specs.declared.view.View.{View}
use Rattle.step_rules.proofs.Rely.Advance.{claim_found}
use Rattle.step_rules.proofs.Numbers.Places.{at_below}
use Rattle.step_rules.proofs.Numbers.Sets.{any_number}

-- no claim names a node
abbrev pub Quiet : List Claim → Type 0
Quiet claims = (c : ℕ) (x : Claim) → get_elem? claims c ≡ some x → x.word ≡ 0

-- nothing stands in the claim words of these numbers
abbrev pub Unclaimed : World → List ℕ → Type 0
Unclaimed W numbers = (x c : ℕ) → has numbers x ≡ true → c < CLAIMS → (W.word (claim_at x c) ≡ 0) × (W.guard (claim_at x c) ≡ 0)

-- the claims of a seat that made no step
abbrev pub no_claims : List Claim
no_claims = replicate CLAIMS (silent 0)

at_replicate : {A : Type 0} (n : ℕ) (a : A) (i : ℕ) (b : A) → get_elem? (replicate n a) i ≡ some b → a ≡ b
at_replicate zero a i b e = absurd (some-ne-none b (sym e))
at_replicate (suc n) a zero b e = some-injective a b e
at_replicate (suc n) a (suc i) b e = at_replicate n a i b e

pub no_claims_quiet : Quiet no_claims
no_claims_quiet c x at = ap (λ (y : Claim). y.word) (sym (at_replicate CLAIMS (silent 0) c x at))

-- such a seat's Own claim stands on no node
pub none_announced : (free : List ℕ) (v : View) → Quiet v.claims → NoneAnnounced free v
none_announced free v quiet n h y at on = let z = quiet OWN y at in let named = on.at in absurd (omega arith)

none_stands : (c n : ℕ) (x : Claim) → get_elem? no_claims c ≡ some x → On x n → ⊥
none_stands c n x at on = let z = no_claims_quiet c x at in let named = on.at in absurd (omega arith)

pub no_claims_sound : (p : Plan) (seen : List Entry) → ClaimsSound p seen no_claims
no_claims_sound p seen = record {
  four = length-replicate CLAIMS (silent 0);
  named = λ c x at stands. absurd (false≢true (ap (λ (y : Claim). y.stands) (at_replicate CLAIMS (silent 0) c x at) ∙ stands));
  there = λ c n x at on. absurd (none_stands c n x at on);
  told = λ c n x at tells on. absurd (none_stands c n x at on);
}

guard_zero : (b : Bool) (word : ℕ) → word ≡ 0 → cond b word 0 ≡ 0
guard_zero true word e = e
guard_zero false word e = refl

-- what is known of a seat's claims, where they name no node
pub claims_quiet : (p : Plan) (W : World) (s : ℕ) (numbers : List ℕ) (least : ℕ) (seen : List Entry) (claims : List Claim)
    → (0 < length numbers → has numbers least ≡ true) → ClaimsSound p seen claims → Quiet claims → Unclaimed W numbers → SeatClaims p W s numbers least seen claims
claims_quiet p W s numbers least seen claims first sound quiet none =
    let inside : (c : ℕ) (x : Claim) → get_elem? claims c ≡ some x → c < CLAIMS = λ c x at. let low = at_below claims c x at in let four = sound.four in omega arith in
    let still : (c n : ℕ) (x : Claim) → get_elem? claims c ≡ some x → On x n → ⊥ = λ c n x at on. let z = quiet c x at in let named = on.at in absurd (omega arith) in record {
      sound = sound;
      word = λ c x some_number at. (none least c (first some_number) (inside c x at)).0 ∙ sym (quiet c x at);
      guard = λ c x some_number at. (none least c (first some_number) (inside c x at)).1 ∙ sym (guard_zero x.stands x.word (quiet c x at));
      others = λ x c h ne lt. none x c h lt;
      none_spent = λ c n x gone at on. still c n x at on;
      image = λ c n x at on. absurd (still c n x at on);
      kept = λ c n t x at on own. absurd (still c n x at on);
      calm = λ c n x at tells on e. absurd (still c n x at on);
      pages = λ c n x at tells on e. absurd (still c n x at on);
      stays = λ c n x at tells on none. absurd (still c n x at on);
    }

-- and then nothing stands in its claim words
pub unclaimed : (p : Plan) (W : World) (s : ℕ) (v : View) → SeatOk p W s v → Quiet v.claims → Unclaimed W v.numbers
unclaimed p W s v ok quiet x c h lt = let k = ok.claims in let y = claim_of c v in let at = claim_found k c lt in let some_number = any_number v.numbers x h in ⊎_elim
    (λ e. (
      ap (λ z. W.word (claim_at z c)) e ∙ (k.word c y some_number at ∙ quiet c y at),
      ap (λ z. W.guard (claim_at z c)) e ∙ (k.guard c y some_number at ∙ guard_zero y.stands y.word (quiet c y at)),
    ))
    (λ ne. k.others x c h ne lt)
    (cases_eq x (number v))
