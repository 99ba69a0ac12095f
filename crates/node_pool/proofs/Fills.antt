-- A node's words, stored or read one after the other.
use Rattle.std.proofs.Common.{◌≡◌, ◌≢◌, ℕ, ◌+◌, ◌<◌, suc, true, false, List, [], ◌∷◌, ◌++◌, length, take, set, map, get_or, refl, sym, ap, ◌∙◌, subst, arith, append_assoc, append-nil, length-set}
use Rattle.std.proofs.lemmas.List.{length-take-le, take_more, take_more_set}
use Rattle.std.proofs.Math.Seq.{take-length}
use mathlib.Core.Option.{some}
use lib.ListN.{get_elem?}
use Rattle.step_rules.proofs.Keeps.Stores.{stored_nodes}
use Rattle.step_rules.proofs.Ties.Owns.{words_at}
use Rattle.step_rules.proofs.Ties.Pools.{held_own, own_wide, words_not_stored, words_stored}
use Rattle.step_rules.proofs.Numbers.Sets.{at_has}
use Rattle.step_rules.specs.Claims.{On}
use Rattle.step_rules.specs.Kinds.Node.{Reads}
use Rattle.node_pool.specs.Pool.{IsFilled, IsRead, load_steps, store_steps}
use Rattle.step_rules.specs.SeatData.{IsSeat, SeatData}
use Rattle.step_rules.specs.Steps.{stepped}
use Rattle.step_rules.specs.Views.{counted, loaded_view, stored_in, stored_view, words_in}
use Rattle.step_rules.specs.World.{has, nodes_of}
use Rattle.step_rules.specs.declared.layout.TheConstants.{NODE_WIDTH}
use Rattle.step_rules.specs.declared.view.Claim.{Claim}
use Rattle.step_rules.specs.declared.view.Counted.{Counted}
use Rattle.step_rules.specs.declared.view.Kind.TheVariants.{NodeLoad, NodeStore}

store_steps_push : (node j i : ℕ) (ws : List ℕ) (w seen : ℕ) → i ≡ j + length ws → store_steps node j (ws ++ w ∷ []) seen ≡ store_steps node j ws seen ++ counted (NodeStore node i w) w seen ∷ []
store_steps_push node j i [] w seen e = let on : j ≡ i = omega arith in ap (λ m. counted (NodeStore node m w) w seen ∷ []) on
store_steps_push node j i (v ∷ ws) w seen e = ap (λ (l : List Counted). counted (NodeStore node j v) v seen ∷ l) (store_steps_push node (suc j) i ws w seen (omega arith))

load_steps_push : (node j i : ℕ) (ws : List ℕ) (w seen : ℕ) → i ≡ j + length ws → load_steps node j (ws ++ w ∷ []) seen ≡ load_steps node j ws seen ++ counted (NodeLoad node i) w seen ∷ []
load_steps_push node j i [] w seen e = let on : j ≡ i = omega arith in ap (λ m. counted (NodeLoad node m) w seen ∷ []) on
load_steps_push node j i (v ∷ ws) w seen e = ap (λ (l : List Counted). counted (NodeLoad node j) v seen ∷ l) (load_steps_push node (suc j) i ws w seen (omega arith))

-- the first j words of a held node are stored
pub record IsFilledTo (node : ℕ) (words : List ℕ) (j : ℕ) (old new : SeatData) : Type 0 where
  pub there : take j (words_in new.view.own node) ≡ take j words
  pub others : (m : ℕ) → m ≢ node → words_in new.view.own m ≡ words_in old.view.own m
  pub nodes : nodes_of new.view.own ≡ nodes_of old.view.own
  pub same : new ≡ record old {
    view = record old.view { own = new.view.own; trail = old.view.trail ++ store_steps node 0 (take j words) (length old.view.seen) };
    fresh = new.fresh;
  }
  pub used : 0 < j → new.fresh ≡ false
  pub law : 0 < j → IsSeat new

pub filled_none : (node : ℕ) (words : List ℕ) (seat : SeatData) → IsFilledTo node words 0 seat seat
filled_none node words seat = record {
  there = refl;
  others = λ m ne. refl;
  nodes = refl;
  same = λ i. record seat { view = record seat.view { trail = sym (append-nil seat.view.trail) i } };
  used = λ lt. absurd (omega arith);
  law = λ lt. absurd (omega arith);
}

pub filled_held : (node : ℕ) (words : List ℕ) (j : ℕ) (old new : SeatData) → IsFilledTo node words j old new → has old.holding node ≡ true → has new.holding node ≡ true
filled_held node words j old new f held = ap (λ (s : SeatData). has s.holding node) f.same ∙ held

-- a held node has all its words
held_wide : (node : ℕ) (seat : SeatData) → IsSeat seat → has seat.holding node ≡ true → length (words_in seat.view.own node) ≡ NODE_WIDTH
held_wide node seat is held = own_wide seat is node (held_own seat is node held)

pub filled_more : (node : ℕ) (words : List ℕ) (j : ℕ) (old seat : SeatData) → length words ≡ NODE_WIDTH → j < NODE_WIDTH → has seat.holding node ≡ true
    → IsSeat (stepped (stored_view node j (get_or words j 0) seat.view) seat) → IsFilledTo node words j old seat
    → IsFilledTo node words (j + 1) old (stepped (stored_view node j (get_or words j 0) seat.view) seat)
filled_more node words j old seat wide lt held law f =
    let w = get_or words j 0 in
    let own = map (stored_in node j w) seat.view.own in
    let now = words_stored node j w seat.view.own in
    let seen = length old.view.seen in
    let all = held_wide node (stepped (stored_view node j w seat.view) seat) law held in
    let room : length (words_in seat.view.own node) ≡ NODE_WIDTH = sym (ap (length {A = ℕ}) now ∙ length-set (words_in seat.view.own node) j w) ∙ all in
    let more : store_steps node 0 (take (j + 1) words) seen ≡ store_steps node 0 (take j words) seen ++ counted (NodeStore node j w) w seen ∷ [] =
    ap (λ l. store_steps node 0 l seen) (take_more words j 0 (omega arith))
    ∙ store_steps_push node 0 j (take j words) w seen (omega (arith, length-take-le j words (omega arith))) in
    record {
      there = ap (take (j + 1)) now ∙ (take_more_set (words_in seat.view.own node) j w (omega arith)
          ∙ (ap (λ l. l ++ w ∷ []) f.there ∙ sym (take_more words j 0 (omega arith))));
      others = λ m ne. words_not_stored node j w m seat.view.own ne ∙ f.others m ne;
      nodes = stored_nodes node j w seat.view.own ∙ f.nodes;
      same = ap (λ (s : SeatData). stepped (stored_view node j w s.view) s) f.same
          ∙ ap (λ (t : List Counted). stepped (record old.view { own = own; trail = t }) old)
          (append_assoc old.view.trail (store_steps node 0 (take j words) seen) (counted (NodeStore node j w) w seen ∷ []) ∙ ap (λ (t : List Counted). old.view.trail ++ t) (sym more));
      used = λ _. refl;
      law = λ _. law;
    }

take_whole : (ws : List ℕ) (j : ℕ) → length ws ≡ j → take j ws ≡ ws
take_whole ws j e = ap (λ i. take i ws) (sym e) ∙ take-length ws

pub filled_all : (node : ℕ) (words : List ℕ) (old new : SeatData) → length words ≡ NODE_WIDTH → has old.holding node ≡ true → IsFilledTo node words NODE_WIDTH old new → IsFilled node words old new
filled_all node words old new wide held f = record {
  words_there = sym (take_whole (words_in new.view.own node) NODE_WIDTH (held_wide node new (f.law (omega arith)) (filled_held node words NODE_WIDTH old new f held)))
      ∙ (f.there ∙ take_whole words NODE_WIDTH wide);
  others = f.others;
  nodes = f.nodes;
  same = f.same ∙ (λ i. record old {
    view = record old.view { own = new.view.own; trail = old.view.trail ++ store_steps node 0 (take_whole words NODE_WIDTH wide i) (length old.view.seen) };
    fresh = f.used (omega arith) i;
  });
}

-- the first j words of a node were read
pub record IsReadTo (node : ℕ) (words : List ℕ) (j : ℕ) (old new : SeatData) : Type 0 where
  pub wide : length words ≡ NODE_WIDTH
  pub held : has (nodes_of old.view.own) node ≡ true → take j words ≡ take j (words_in old.view.own node)
  pub claimed : (c : ℕ) (y : Claim) → get_elem? old.view.claims c ≡ some y → On y node → take j words ≡ take j y.image
  pub same : new ≡ record old { view = record old.view { trail = old.view.trail ++ load_steps node 0 (take j words) (length old.view.seen) }; fresh = new.fresh }
  pub used : 0 < j → new.fresh ≡ false
  pub law : 0 < j → IsSeat new

pub read_more : (node : ℕ) (words : List ℕ) (j w : ℕ) (old seat : SeatData) → IsSeat (stepped (loaded_view node j w seat.view) seat) → j < NODE_WIDTH → IsReadTo node words j old seat
    → Reads node j w seat.view
    → IsReadTo node (set words j w) (j + 1) old (stepped (loaded_view node j w seat.view) seat)
read_more node words j w old seat law lt r reads =
    let is = subst (λ (s : SeatData). IsSeat (stepped (loaded_view node j w s.view) s)) r.same law in
    let seen = length old.view.seen in
    let wide = r.wide in
    let front : take (j + 1) (set words j w) ≡ take j words ++ w ∷ [] = take_more_set words j w (omega arith) in
    let more : load_steps node 0 (take (j + 1) (set words j w)) seen ≡ load_steps node 0 (take j words) seen ++ counted (NodeLoad node j) w seen ∷ [] =
    ap (λ l. load_steps node 0 l seen) front
    ∙ load_steps_push node 0 j (take j words) w seen (omega (arith, length-take-le j words (omega arith))) in
    let known = subst (λ (s : SeatData). Reads node j w s.view) r.same reads in
    record {
      wide = length-set words j w ∙ r.wide;
      held = λ h.
          let a = at_has old.view.own node h in
          let here : words_in old.view.own node ≡ a.1.words = words_at node old.view.own a.0 a.1 is.sound.own_once a.2 a.3 in
          let room = own_wide _ is node h in
          let found : w ≡ get_or (words_in old.view.own node) j 0 = known.own a.0 a.1 a.2 a.3 ∙ ap (λ l. get_or l j 0) (sym here) in
          front ∙ ((λ i. r.held h i ++ found i ∷ []) ∙ sym (take_more (words_in old.view.own node) j 0 (omega arith)));
      claimed = λ c y at on. let room = (is.sound.claims.there c node y at on).1 in
          front ∙ ((λ i. r.claimed c y at on i ++ known.claim c y at on i ∷ []) ∙ sym (take_more y.image j 0 (omega arith)));
      same = ap (λ (s : SeatData). stepped (loaded_view node j w s.view) s) r.same
          ∙ ap (λ (t : List Counted). stepped (record old.view { trail = t }) old)
          (append_assoc old.view.trail (load_steps node 0 (take j words) seen) (counted (NodeLoad node j) w seen ∷ []) ∙ ap (λ (t : List Counted). old.view.trail ++ t) (sym more));
      used = λ _. refl;
      law = λ _. law;
    }

pub read_all : (node : ℕ) (words : List ℕ) (old new : SeatData) → IsReadTo node words NODE_WIDTH old new → IsRead node words old new
read_all node words old new r = let is = subst IsSeat r.same (r.law (omega arith)) in record {
  held = λ h. sym whole ∙ (r.held h ∙ take_whole (words_in old.view.own node) NODE_WIDTH (own_wide _ is node h));
  claimed = λ c y at on. sym whole ∙ (r.claimed c y at on ∙ take_whole y.image NODE_WIDTH (is.sound.claims.there c node y at on).1);
  same = r.same ∙ (λ i. record old { view = record old.view { trail = old.view.trail ++ load_steps node 0 (whole i) (length old.view.seen) }; fresh = r.used (omega arith) i });
}
  where
    whole : take NODE_WIDTH words ≡ words
    whole = take_whole words NODE_WIDTH r.wide
