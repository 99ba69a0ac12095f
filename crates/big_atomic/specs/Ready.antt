-- A seat between two calls.
use Rattle.std.specs.Prelude.{◌≡◌, ℕ, List, [], true, false}
use Rattle.step_rules.specs.Claims.{BACK, HOLD, OWN, WALK}
use Rattle.step_rules.specs.SeatData.{IsHolding, IsOf, IsSeat, ObjectData, SeatData, holds_record}
use Rattle.step_rules.specs.Views.{claim_of}

-- any call may be made: the seat is of this object and lawful, it holds no node, its Back, Walk and Own words are 0, and its Hold word is 0 unless a record
-- is held; then the Hold claim stands on that record's node. A caller needs no more of it than four facts: a seat that `build` or `split` made is ready
-- (`fresh_is_ready`); every call asks for it and gives it again; a ready seat that holds no record is quiet, so that it may be joined (`ready_is_quiet`);
-- and a quiet seat of this object is ready (`quiet_is_ready`)
pub record IsReady (shared : ObjectData) (seat : SeatData) : Type 0 where
  pub ours : IsOf shared seat
  pub law : IsSeat seat
  pub idle : seat.holding ≡ []
  pub back : (claim_of BACK seat.view).word ≡ 0
  pub walk : (claim_of WALK seat.view).word ≡ 0
  pub own : (claim_of OWN seat.view).word ≡ 0
  pub hold : holds_record seat.view ≡ false → (claim_of HOLD seat.view).word ≡ 0
  pub held : holds_record seat.view ≡ true → (words : List ℕ) × IsHolding words seat.view
