-- The front of an insert, copied.
use Rattle.std.proofs.Common.{◌≡◌, ◌≢◌, ◌∙◌, ℕ, ◌+◌, ◌-◌, ◌<◌, ◌≤◌, true, false, eq-eqb, ne_eqb, List, [], ◌∷◌, ◌++◌, length, append_assoc, length-append, sym, ap, subst, arith, ⊎_elim}
use Rattle.std.proofs.lemmas.Bool.{cases_eq, false≢true}
use Rattle.chain_links.proofs.Passing.{Kept, back_claim, claim_at_low, kept_back, kept_then, read_kept}
use Rattle.chain_links.proofs.Putting.{put_kept}
use Rattle.chain_links.proofs.Seeking.{next_word}
use Rattle.chain_links.proofs.Ways.{first_node}
use Rattle.chain_links.specs.Copying.{HoldsCopy, IsPut, PutsBeside, front_steps, put_steps}
use Rattle.chain_links.specs.Walking.{HasBack}
use Rattle.node_pool.proofs.Taken.{has_added}
use Rattle.node_pool.specs.Pool.{IsRead, load_steps}
use Rattle.seat_history.specs.declared.words.TheConstants.{WIDTH}
use Rattle.step_rules.proofs.Numbers.Bags.{one_list}
use Rattle.step_rules.proofs.Order.Inserting.{PutsBefore, front_alone, front_before, insert_front}
use Rattle.step_rules.proofs.Order.Pages.{is_end, page_tells}
use Rattle.step_rules.proofs.Ties.Pools.{own_wide}
use Rattle.step_rules.proofs.Numbers.Sets.{has_left}
use Rattle.step_rules.proofs.World.Sizes.{nodes_low}
use Rattle.step_rules.proofs.Ties.Tied.{moved_times, own_held, own_there}
use Rattle.step_rules.specs.Bags.{times}
use Rattle.step_rules.specs.Claims.{BACK, On}
use Rattle.step_rules.specs.Fronts.{front_of}
use Rattle.step_rules.specs.Records.{put}
use Rattle.step_rules.specs.SeatData.{IsSeat, SeatData}
use Rattle.step_rules.specs.Steps.{stepped}
use Rattle.step_rules.specs.Views.{claim_of, claimed_records, words_in}
use Rattle.step_rules.specs.World.{has, nodes_of}
use Rattle.step_rules.specs.declared.layout.TheConstants.{END}
use Rattle.step_rules.specs.declared.view.Claim.{Claim}
use Rattle.step_rules.specs.declared.view.Counted.{Counted}
use Rattle.step_rules.specs.declared.view.Held.{Held}

-- one node more is put by this seat, whose lists and own nodes are then those of another
abbrev put_next : SeatData → ℕ → List ℕ → SeatData → SeatData
put_next now node words z =
    record (stepped (record z.view { own = now.view.own; trail = z.view.trail ++ put_steps node words (length z.view.seen) }) z) { free = now.free; holding = now.holding }

abbrev seat_after : SeatData → SeatData → List Counted → SeatData
seat_after before now trail = record (stepped (record before.view { own = now.view.own; trail = trail }) before) { free = now.free; holding = now.holding }

-- the claimed first node was read by a seat that holds no node
pub record ReadsFirst (cell first : ℕ) (words : List ℕ) (before read : SeatData) : Type 0 where
  pub law : IsSeat before
  pub back : HasBack cell before.view
  pub idle : before.holding ≡ []
  pub first_is : first ≡ back.node
  pub reads : IsRead first words before read

pub reads_first : {cell number word : ℕ} {words : List ℕ} {before read : SeatData} → IsSeat before → (b : HasBack cell before.view) → before.holding ≡ [] → number ≡ BACK
    → word ≡ (claim_of number before.view).word → IsRead (word - 1) words before read → ReadsFirst cell (word - 1) words before read
reads_first {cell} {number} {word} {before = before} law back idle back_is word_is reads =
    record { law = law; back = back; idle = idle; first_is = first_node number word cell before.view back back_is word_is; reads = reads }

-- a put node is held
put_held : {node : ℕ} {words : List ℕ} {old now : SeatData} → IsPut node words old now → has now.holding node ≡ true
put_held {node} {old = old} p = subst (λ (l : List ℕ). has l node ≡ true) (sym p.holding) (has_added old.holding node)

put_own : {node : ℕ} {words : List ℕ} {old now : SeatData} → IsPut node words old now → IsSeat now → has (nodes_of now.view.own) node ≡ true
put_own {node} {now = now} p law = own_held node (nodes_of now.view.own) now.free now.holding (law.lists node) (put_held p)

put_wide : {node : ℕ} {old now : SeatData} (y : ℕ) (rec : List ℕ) → IsPut node (rec ++ y ∷ []) old now → IsSeat now → length rec ≡ WIDTH
put_wide {node} {now = now} y rec p law = omega (arith, ap (length {A = ℕ}) p.words_there, own_wide now law node (put_own p law), length-append rec (y ∷ []))

put_there : {node : ℕ} {words : List ℕ} {old now : SeatData} → IsPut node words old now → (m : ℕ) → times m now.free + times m now.holding ≡ times m old.free + times m old.holding
put_there {node} {old = old} {now = now} p = moved_times node old.free now.free old.holding now.holding p.free p.holding

module _ {cell first : ℕ} {words : List ℕ} {before read : SeatData} (r : ReadsFirst cell first words before read) where
  on_first : On (claim_of BACK before.view) first
  on_first = subst (λ n. On (claim_of BACK before.view) n) (sym r.first_is) r.back.stands

  image_is : words ≡ (claim_of BACK before.view).image
  image_is = r.reads.claimed BACK (claim_of BACK before.view) (claim_at_low BACK before.view r.law.sound (omega arith)) on_first

  -- the word tells whether the chain has a record
  no_records : next_word words ≡ END → claimed_records before.view ≡ []
  no_records e = let claim = back_claim cell before.view r.law.sound r.back in
      claim.records ∙ (page_tells before.view.plan before.view.seen (claim_of BACK before.view) r.back.node claim).none
      (eq-eqb (next_word (claim_of BACK before.view).image) END (ap next_word (sym image_is) ∙ e))

  some_records : next_word words ≢ END → claimed_records before.view ≢ []
  some_records ne none = let claim = back_claim cell before.view r.law.sound r.back in
      let some = (page_tells before.view.plan before.view.seen (claim_of BACK before.view) r.back.node claim).some
      (ne_eqb (next_word (claim_of BACK before.view).image) END (λ e. ne (ap next_word image_is ∙ e))) in
      let more = ap (length {A = List ℕ}) (sym none ∙ (claim.records ∙ some.1)) in absurd (omega arith)

  free_same : read.free ≡ before.free
  free_same = ap (λ (z : SeatData). z.free) r.reads.same

  pub room_one : (claimed_records before.view ≡ [] → 1 ≤ length before.free) → next_word words ≡ END → 0 < length read.free
  room_one room e = let some = room (no_records e) in omega (arith, ap length free_same)

  pub room_two : (claimed_records before.view ≢ [] → 2 ≤ length before.free) → next_word words ≢ END → 1 < length read.free
  room_two room ne = let some = room (some_records ne) in omega (arith, ap length free_same)

  none_held : read.holding ≡ []
  none_held = ap (λ (z : SeatData). z.holding) r.reads.same ∙ r.idle

  -- the nodes that are held then, in two ways
  abbrev seen : ℕ
  seen = length before.view.seen

  image_now : (now : SeatData) → Kept before now → words ≡ (claim_of BACK now.view).image
  image_now now k = image_is ∙ sym (ap (λ (x : Claim). x.image) k.back)

  module _ (node : ℕ) (rec : List ℕ) (now : SeatData) (last : IsSeat now) where
    -- ALONE
    module _ (e : next_word words ≡ END) (p : IsPut node (rec ++ 0 ∷ []) read now) where
      alone_kept : Kept before now
      alone_kept = kept_then (read_kept r.reads) (put_kept p)

      alone_end : is_end (claim_of BACK now.view).image ≡ true
      alone_end = eq-eqb (next_word (claim_of BACK now.view).image) END (ap next_word (sym (image_now now alone_kept)) ∙ e)

      alone_puts : PutsBefore node 0 r.back.node rec now.view
      alone_puts = record {
        told = back_claim cell now.view last.sound (kept_back alone_kept r.back);
        wide = put_wide 0 rec p last;
        mine = put_own p last;
        alone = λ _. p.words_there;
        before = λ no. absurd (false≢true (sym no ∙ alone_end));
      }

      alone_front : front_of node (put rec) now.view ≡ record { node = node; words = rec ++ 0 ∷ [] } ∷ []
      alone_front = front_alone alone_puts alone_end ∙ (λ i. record { node = node; words = p.words_there i } ∷ [])

      alone_holding : now.holding ≡ node ∷ []
      alone_holding = p.holding ∙ ap (λ (l : List ℕ). l ++ node ∷ []) none_held

      pub copies_none : HoldsCopy node (put rec) before now
      copies_none = record {
        first = first;
        stands = on_first;
        front = insert_front alone_puts;
        held = λ m. ap (λ (l : List ℕ). has l m) alone_holding ∙ sym (ap (λ (l : List Held). has (nodes_of l) m) alone_front);
        free = λ m. omega (arith, put_there p m, ap (times m) free_same, ap (times m) none_held);
        others = λ m none. p.others m (λ same. false≢true (sym none ∙ subst (λ n. has now.holding n ≡ true) (sym same) (put_held p)))
            ∙ ap (λ (z : SeatData). words_in z.view.own m) r.reads.same;
        nodes = p.nodes ∙ ap (λ (z : SeatData). nodes_of z.view.own) r.reads.same;
        same = p.same
            ∙ (ap (λ (z : SeatData). put_next now node (rec ++ 0 ∷ []) z) r.reads.same
            ∙ (λ i. seat_after before now ((append_assoc before.view.trail (load_steps first 0 words seen) (put_steps node (rec ++ 0 ∷ []) seen)
            ∙ (λ j. before.view.trail ++ (load_steps first 0 (image_is j) seen ++ front_steps (sym alone_front j) seen))) i)));
      }

    -- BESIDE OTHER RECORDS
    module _ (ne : next_word words ≢ END) (q : PutsBeside node rec words read now) where
      beside_kept : Kept before now
      beside_kept = kept_then (read_kept r.reads) (kept_then (put_kept q.copies) (put_kept q.puts))

      beside_end : is_end (claim_of BACK now.view).image ≡ false
      beside_end = ne_eqb (next_word (claim_of BACK now.view).image) END (λ e. ne (ap next_word (image_now now beside_kept) ∙ e))

      beside_holding : now.holding ≡ q.copy ∷ node ∷ []
      beside_holding = q.puts.holding ∙ ap (λ (l : List ℕ). l ++ node ∷ []) (q.copies.holding ∙ ap (λ (l : List ℕ). l ++ q.copy ∷ []) none_held)

      copy_held : has now.holding q.copy ≡ true
      copy_held = subst (λ (l : List ℕ). has l q.copy ≡ true) (sym q.puts.holding) (has_left q.mid.holding (node ∷ []) q.copy (put_held q.copies))

      copy_own : has (nodes_of now.view.own) q.copy ≡ true
      copy_own = own_held q.copy (nodes_of now.view.own) now.free now.holding (last.lists q.copy) copy_held

      apart : node ≢ q.copy
      apart same = one_list node (nodes_of q.mid.view.own) q.mid.free q.mid.holding (q.middle.lists node) q.middle.sound.own_once q.puts.was_free
          (subst (λ n. has q.mid.holding n ≡ true) (sym same) (put_held q.copies))

      copy_words : words_in now.view.own q.copy ≡ words
      copy_words = q.puts.others q.copy (λ e. apart (sym e)) ∙ q.copies.words_there

      beside_puts : PutsBefore node q.copy r.back.node rec now.view
      beside_puts = record {
        told = back_claim cell now.view last.sound (kept_back beside_kept r.back);
        wide = put_wide (q.copy + 1) rec q.puts last;
        mine = put_own q.puts last;
        alone = λ end. absurd (false≢true (sym beside_end ∙ end));
        before = λ _. record {
          link = copy_own;
          apart = apart;
          low = omega (arith, own_there q.copy now.view last.sound copy_own, nodes_low now.view.plan last.sound.plan);
          first = q.puts.words_there;
          second = copy_words ∙ image_now now beside_kept;
        };
      }

      beside_front : front_of node (put rec) now.view ≡ record { node = node; words = rec ++ (q.copy + 1) ∷ [] } ∷ record { node = q.copy; words = words } ∷ []
      beside_front = front_before beside_puts beside_end
          ∙ (λ i. record { node = node; words = q.puts.words_there i } ∷ record { node = q.copy; words = sym (image_now now beside_kept) i } ∷ [])

      swapped : (a b m : ℕ) → has (a ∷ b ∷ []) m ≡ has (b ∷ a ∷ []) m
      swapped a b m = grind arith

      pub copies_one : HoldsCopy node (put rec) before now
      copies_one = record {
        first = first;
        stands = on_first;
        front = insert_front beside_puts;
        held = λ m. ap (λ (l : List ℕ). has l m) beside_holding ∙ (swapped q.copy node m ∙ sym (ap (λ (l : List Held). has (nodes_of l) m) beside_front));
        free = λ m. omega (arith, put_there q.puts m, put_there q.copies m, ap (times m) free_same, ap (times m) none_held);
        others = λ m none. q.puts.others m (λ same. false≢true (sym none ∙ subst (λ n. has now.holding n ≡ true) (sym same) (put_held q.puts)))
            ∙ (q.copies.others m (λ same. false≢true (sym none ∙ subst (λ n. has now.holding n ≡ true) (sym same) copy_held))
            ∙ ap (λ (z : SeatData). words_in z.view.own m) r.reads.same);
        nodes = q.puts.nodes ∙ (q.copies.nodes ∙ ap (λ (z : SeatData). nodes_of z.view.own) r.reads.same);
        same = q.puts.same
            ∙ (ap (λ (z : SeatData). put_next now node (rec ++ (q.copy + 1) ∷ []) z) q.copies.same
            ∙ (ap (λ (z : SeatData). put_next now node (rec ++ (q.copy + 1) ∷ []) (put_next q.mid q.copy words z)) r.reads.same
            ∙ (λ i. seat_after before now ((append_assoc (before.view.trail ++ load_steps first 0 words seen) (put_steps q.copy words seen) (put_steps node (rec ++ (q.copy + 1) ∷ []) seen)
            ∙ (append_assoc before.view.trail (load_steps first 0 words seen) (put_steps q.copy words seen ++ put_steps node (rec ++ (q.copy + 1) ∷ []) seen)
            ∙ (λ j. before.view.trail ++ (load_steps first 0 (image_is j) seen ++ front_steps (sym beside_front j) seen)))) i))));
      }

-- both ways
pub copies : {cell first node : ℕ} {words rec : List ℕ} {before read now : SeatData} → ReadsFirst cell first words before read → IsSeat now
    → (next_word words ≡ END → IsPut node (rec ++ 0 ∷ []) read now) → (next_word words ≢ END → PutsBeside node rec words read now) → HoldsCopy node (put rec) before now
copies {node = node} {words = words} {rec = rec} {now = now} r last alone beside = ⊎_elim
    (λ e. copies_none r node rec now last e (alone e))
    (λ ne. copies_one r node rec now last ne (beside ne))
    (cases_eq (next_word words) END)
