-- What one visitor counted, and what the closed table has of all.
use Rattle.std.proofs.Common.{◌≡◌, ◌∙◌, ℕ, ◌+◌, ◌*◌, ◌^◌, ◌<◌, ◌≤◌, true, List, [], ◌∷◌, ◌++◌, All, Option, Some, None, cond, length, length-append, sym, ap, subst, arith, slice_index_or}
use Rattle.std.specs.List.{remove}
use Rattle.std.proofs.lemmas.List.Elements.{All-nil}
use Rattle.cache_hash.proofs.Prelude.{count_push, key_counts, ready_quiet, seats_counted, seats_only, unused_is_never_short}
use Rattle.cache_hash.specs.Prelude.{AreLed, ArePairsOf, ClosedData, CountsKeys, CountsMore, Fits, HasRoom, IsClosed, IsCount, IsNeverShort, IsQuietOf, IsSeat, IsUnused}
use Rattle.cache_hash.specs.Prelude.{KeyWords, ObjectData, OnlyCount, Pairs, SeatData, Stand, all_stands, end_of, times_counted}
use Rattle.cache_hash.specs.declared.answers.Update.TheVariants.{Done}
use Rattle.std.proofs.Math.Nat.{mul-le-mul_right}
use Rattle.std.proofs.lemmas.List.Sums.{count_by-le-length}
use Rattle.visit_counter.specs.Visits.{AreTotals, HasVisited, IsTotal, is_page, times_listed, visits}

quiet_of : (shared : ObjectData) (seat : SeatData) → IsNeverShort shared seat → IsQuietOf shared seat
quiet_of shared seat is = record { ours = is.ready.ours; quiet = ready_quiet shared seat is.ready is.none_held }

-- a visitor before its first visit
pub none_visited : (shared : ObjectData) (seat : SeatData) → HasRoom shared.plan → IsUnused shared seat → HasVisited shared [] seat
none_visited shared seat room u = let is = unused_is_never_short shared seat room u in let changes = u.changes in record {
  never_short = is;
  quiet = quiet_of shared seat is;
  only = subst (OnlyCount visits) (sym u.stands) (All-nil (λ (s : Stand). CountsKeys visits s.call));
  count = λ k. ap (times_counted k) u.stands;
  left = omega (arith, changes);
}

-- one page more
pub visited_more : {shared : ObjectData} {there : Option (List ℕ)} {before after : SeatData} {pages : List KeyWords} (page : KeyWords) → Fits shared (Done there) before after
    → CountsMore visits page (Done there) before after → HasVisited shared pages before → HasVisited shared (pages ++ page ∷ []) after
visited_more {shared} {after = after} {pages = pages} page fits more was = record {
  never_short = fits.never_short;
  quiet = quiet_of shared after fits.never_short;
  only = more.only was.only;
  count = λ k. more.count k ∙ (ap (λ n. n + cond (is_page k page) 1 0) (was.count k) ∙ sym (count_push (is_page k) pages page));
  left = omega (arith, fits.spends, was.left, length-append pages (page ∷ []));
}

-- the first of some seats, and the rest
pub split_first : (seats rest : List SeatData) (first : SeatData) → AreLed seats → first ≡ slice_index_or seats 0 first → rest ≡ remove seats 0
    → (seats ≡ first ∷ rest) × (first.first ≡ true)
split_first [] rest first led is left = absurd led
split_first (s ∷ later) rest first led is left = (λ i. sym is i ∷ sym left i, ap (λ (x : SeatData). x.first) is ∙ led)

small : (there : Option (List ℕ)) (n : ℕ) → n < 2 ^ 64 → IsCount visits there n → IsTotal there n
small None n l is = is
small (Some val) n l is = (is.0, omega (arith, is.1))

pub totals : (shared : ObjectData) (pages : List KeyWords) (seats : List SeatData) (seat : SeatData) (closed : ClosedData) (pairs : Pairs) → All (HasVisited shared pages) seats
    → seat.view.stands ≡ all_stands seats → length seats ≡ shared.plan.seats → shared.plan.seats ≤ 64 → length pages ≤ 2 ^ 32
    → IsSeat seat → IsClosed seat closed → ArePairsOf (end_of closed).values pairs → AreTotals pages shared.plan.seats pairs
totals shared pages seats seat closed pairs all stands each most few law is are k =
    let n : ℕ = times_listed k pages in
    let whole = is.stands ∙ stands in
    let count : times_counted k closed.stands ≡ shared.plan.seats * n = ap (times_counted k) whole ∙ (seats_counted k n seats (λ i d l. (all i d l).count k) ∙ ap (λ m. m * n) each) in
    let counted = key_counts visits k seat closed law is (subst (OnlyCount visits) (sym whole) (seats_only visits seats (λ i d l. (all i d l).only))) in
    let short : n ≤ 2 ^ 32 = let l = count_by-le-length (is_page k) pages in omega arith in
    let upper : shared.plan.seats * n ≤ 64 * n = mul-le-mul_right n most in
    subst (λ (o : Option (List ℕ)). IsTotal o (shared.plan.seats * n)) (sym (are.whole k))
    (small ((end_of closed).values k) (shared.plan.seats * n) (omega (arith, short, upper)) (subst (IsCount visits ((end_of closed).values k)) count counted))
