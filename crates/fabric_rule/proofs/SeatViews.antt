-- What becomes of views in the splits that the table makes.
use Rattle.std.proofs.Common.{ℕ, suc, ◌+◌, ◌-◌, ◌≡◌, ◌≢◌, ◌≤◌, ◌<◌, ◌==◌, ◌⊎◌, map, inl, inr, cond, List, [], ◌∷◌, refl, sym, ap, ◌∙◌, subst, arith}
use Rattle.std.specs.Prelude.{Option}
use Rattle.std.specs.List.{range_with_len}
use Rattle.std.proofs.lemmas.Bool.{cases_lt, le-ltb, lt-ltb}
use Rattle.unit_model.specs.PartOrder.{Each}
use Rattle.unit_model.specs.Shapes.{role_in}
use Rattle.unit_model.specs.Weights.{weigh}
use Rattle.unit_model.specs.declared.shape.Shape.{Shape}
use Rattle.fabric_rule.specs.Contents.{CarriesSlots}
use Rattle.fabric_rule.specs.Opening.{first_ledger, fresh_ledger, ledger_of}
use Rattle.fabric_rule.specs.Parts.{IsIdle}
use Rattle.fabric_rule.specs.Seats.{HasItsArm, HasNoPost, HasOwnLists, IsAtRest, IsCut, IsJoined, IsParted, IsShared, MayAccount, MayBecome, MayEndAll, MayJoin, TakesListsAlone, ended, ending, first_from, fresh_main, handed, handing_on, knowing, ledger_after, later_ledgers, lists_of, main_of, together, without_first_lists, without_lists, without_works, works_of}
use Rattle.fabric_rule.specs.Views.{empty, emptied_by, held_at}
use Rattle.fabric_rule.specs.declared.view.FabricView.{FabricView}
use Rattle.fabric_rule.specs.declared.view.HeldItem.{HeldItem}
use Rattle.fabric_rule.specs.declared.view.KeptItem.{KeptItem}
use Rattle.fabric_rule.specs.declared.view.Ledger.{Ledger}
use Rattle.fabric_rule.specs.declared.view.Work.{Work}
use Rattle.fabric_rule.proofs.Hands.{nothing_of}
use Rattle.fabric_rule.proofs.Sharing.{all_leave, all_stay}

-- ---- ledgers

popped_none : (shape : Shape) (queue : ℕ) (f : ℕ → ℕ) (ledgers : List Ledger) → Each (λ (c : Ledger). c.popped ≡ []) ledgers → weigh (λ (c : Ledger). cond (emptied_by shape c.seat == queue) (weigh f c.popped) 0) ledgers ≡ 0
popped_none shape queue f [] none = refl
popped_none shape queue f (c ∷ cs) none = omega (arith, nothing_of (emptied_by shape c.seat == queue) (weigh f c.popped) (ap (weigh f) none.0), popped_none shape queue f cs none.1)

first_off : (ledgers : List Ledger) → ledgers ≢ [] → IsShared ledgers (later_ledgers ledgers) (first_ledger ledgers ∷ [])
first_off [] some = absurd (some refl)
first_off (c ∷ cs) some = inr ([], refl, all_stay cs)

each_later : (P : Ledger → Type 0) (ledgers : List Ledger) → Each P ledgers → Each P (later_ledgers ledgers)
each_later P [] each = tt
each_later P (c ∷ cs) each = each.1

each_first : (P : Ledger → Type 0) (ledgers : List Ledger) → ledgers ≢ [] → Each P ledgers → P (first_ledger ledgers)
each_first P [] some each = absurd (some refl)
each_first P (c ∷ cs) some each = each.0

-- ---- splits

-- a view is cut where arms, chunks, records and the log stay
module _ (v : FabricView) (seat : ℕ) (ledgers : List Ledger) (works : List Work) (items : List HeldItem) (kept : List KeptItem) (off_ledgers : List Ledger) (off_works : List Work) (off_items : List HeldItem) (off_kept : List KeptItem) where
  abbrev left : FabricView
  left = record v { ledgers = ledgers; works = works; items = items; kept = kept }

  abbrev right : FabricView
  right = record (knowing seat v) { ledgers = off_ledgers; works = off_works; items = off_items; kept = off_kept }

  cut_off : (seat ≡ v.seat) ⊎ TakesListsAlone right → IsShared v.ledgers ledgers off_ledgers → IsShared v.works works off_works → IsShared v.items items off_items → IsShared v.kept kept off_kept
      → Each (HasItsArm v.arms) works → HasNoPost off_works → IsIdle v.shape left → IsIdle v.shape right → IsCut v left right
  cut_off alone some_ledgers some_works some_items some_kept left_arms right_arms left_idle right_idle = record {
    left_shape = refl;
    right_shape = refl;
    left_seat = refl;
    right_seat = alone;
    ledgers = some_ledgers;
    works = some_works;
    left_chunks = refl;
    right_chunks = refl;
    items = some_items;
    kept = some_kept;
    arms = all_stay v.arms;
    left_records = refl;
    right_records = refl;
    left_log = refl;
    right_log = refl;
    left_arms = left_arms;
    right_arms = right_arms;
    left_idle = left_idle;
    right_idle = right_idle;
  }

-- with no account changed before
parted : (v l r : FabricView) → IsCut v l r → IsParted v l r
parted v l r cut = record { between = v; becomes = inl refl; cut = cut }

pub main_leaves : (v : FabricView) → IsAtRest v → v.ledgers ≢ [] → role_in v.shape (ledger_of v).seat ≤ 1 → IsParted v (without_first_lists v) (main_of (ledger_of v) v)
main_leaves v rest some role =
    let none : (q : ℕ) (f : ℕ → ℕ) → held_at q f v ≡ 0 = λ q f. ap (weigh (λ (h : HeldItem). cond (h.queue == q) (f h.item) 0)) rest.items in
    let left_idle : IsIdle v.shape (without_first_lists v) = λ idle. record {
      chunks = rest.chunks;
      items = λ q f. none q f ∙ sym (popped_none v.shape q f (later_ledgers v.ledgers) (each_later (λ (c : Ledger). c.popped ≡ []) v.ledgers rest.popped));
    } in
    let right_idle : IsIdle v.shape (main_of (ledger_of v) v) = λ idle. record {
      chunks = refl;
      items = λ q f. sym (popped_none v.shape q f (ledger_of v ∷ []) (each_first (λ (c : Ledger). c.popped ≡ []) v.ledgers some rest.popped, tt));
    } in
    parted v (without_first_lists v) (main_of (ledger_of v) v)
    (cut_off v (ledger_of v).seat (later_ledgers v.ledgers) v.works v.items v.kept (ledger_of v ∷ []) [] [] []
    (inr (record { role = role; works = refl; items = refl })) (first_off v.ledgers some) (all_stay v.works) (all_stay v.items) (all_stay v.kept)
    (subst (Each (HasItsArm v.arms)) (sym rest.works) tt) tt left_idle right_idle)

-- the first seat gives away the lists of a number
pub first_leaves : (shape : Shape) (number : ℕ) → number < shape.engines + shape.workers → IsParted (first_from shape number) (first_from shape (number + 1)) (fresh_main shape number)
first_leaves shape number lt =
    let n : ℕ = shape.engines + shape.workers - (number + 1) in
    let more : shape.engines + shape.workers - number ≡ suc n = omega (arith, lt) in
    let from : first_from shape number ≡ record (empty shape) { ledgers = fresh_ledger number ∷ map fresh_ledger (range_with_len (number + 1) n) } =
    ap (λ (m : ℕ). record (empty shape) { ledgers = map fresh_ledger (range_with_len number m) }) more ∙ ap (λ (l : List Ledger). record (empty shape) { ledgers = l }) (next_ledgers number n) in
    let v : FabricView = record (empty shape) { ledgers = fresh_ledger number ∷ map fresh_ledger (range_with_len (number + 1) n) } in
    let rest : IsAtRest v = record { works = refl; chunks = refl; items = refl; popped = (refl, all_fresh (range_with_len (number + 1) n)) } in
    subst (λ (y : FabricView). IsParted y (first_from shape (number + 1)) (fresh_main shape number)) (sym from) (main_leaves v rest (λ none. absurd (cc none)) (role_there shape number lt))
  where
    next_ledgers : (k m : ℕ) → map fresh_ledger (range_with_len k (suc m)) ≡ fresh_ledger k ∷ map fresh_ledger (range_with_len (k + 1) m)
    next_ledgers k m = refl

    all_fresh : (ks : List ℕ) → Each (λ (c : Ledger). c.popped ≡ []) (map fresh_ledger ks)
    all_fresh [] = tt
    all_fresh (k ∷ ks) = (refl, all_fresh ks)

    role_there : (sh : Shape) (k : ℕ) → k < sh.engines + sh.workers → role_in sh k ≤ 1
    role_there sh k inside = elim (cases_lt k sh.engines) [
      | inl lt ↦ rw (lt-ltb k sh.engines lt) (omega arith)
      | inr le ↦ rw (le-ltb k sh.engines le) (rw (lt-ltb k (sh.engines + sh.workers) inside) (omega arith))
    ]

pub lists_leave : (v : FabricView) → v.works ≢ [] → Each (HasItsArm v.arms) v.works → Each (λ (c : Ledger). c.popped ≡ []) v.ledgers → IsParted v (without_lists v) (lists_of v)
lists_leave v some posts popped =
    parted v (without_lists v) (lists_of v)
    (cut_off v v.seat [] v.works v.items [] v.ledgers [] [] v.kept (inl refl) (all_leave v.ledgers) (all_stay v.works) (all_stay v.items) (all_leave v.kept) posts tt
    (λ none. absurd (some none))
    (λ none. record { chunks = refl; items = λ q f. sym (popped_none v.shape q f v.ledgers popped) }))

works_cut : (v : FabricView) → v.works ≢ [] → HasNoPost v.works → v.chunks ≡ [] → Each (λ (c : Ledger). c.popped ≡ []) v.ledgers → IsCut v (without_works v) (works_of v)
works_cut v some posts chunks popped =
    cut_off v v.seat v.ledgers [] [] v.kept [] v.works v.items [] (inl refl) (all_stay v.ledgers) (all_leave v.works) (all_leave v.items) (all_stay v.kept) tt posts
    (λ none. record { chunks = chunks; items = λ q f. sym (popped_none v.shape q f v.ledgers popped) })
    (λ none. absurd (some none))

pub works_leave : (v : FabricView) → v.works ≢ [] → HasNoPost v.works → v.chunks ≡ [] → Each (λ (c : Ledger). c.popped ≡ []) v.ledgers → IsParted v (without_works v) (works_of v)
works_leave v some posts chunks popped = parted v (without_works v) (works_of v) (works_cut v some posts chunks popped)

pub popped_leaves : (v : FabricView) → HasOwnLists v → role_in v.shape v.seat ≢ 0 → HasNoPost v.works → v.chunks ≡ [] → IsParted v (without_works (handed v)) (works_of (handed v))
popped_leaves v lists worker posts chunks =
    let may : MayAccount (handing_on v) (ledger_of v) v = record {
      only = lists.only;
      number = lists.number;
      works = all_stay v.works;
      may_end = tt;
      causes = tt;
      items = all_stay v.items;
      may_keep = tt;
      popped = inr worker;
      idle = λ none. absurd (cc none);
    } in
    record {
      between = handed v;
      becomes = inr (handing_on v, ledger_of v, refl, may);
      cut = works_cut (handed v) (λ none. absurd (cc none)) (tt, posts) chunks (refl, tt);
    }

-- ---- joins

pub all_end : (v w : FabricView) → MayJoin v w → MayEndAll (together v w) → IsJoined v w (ended (together v w))
all_end v w join end =
    let u : FabricView = together v w in
    let may : MayAccount (ending u) (ledger_of u) u = record {
      only = end.lists.only;
      number = end.lists.number;
      works = all_leave u.works;
      may_end = end.may_end;
      causes = tt;
      items = all_leave u.items;
      may_keep = end.may_keep;
      popped = inl refl;
      idle = λ none. record { chunks = end.chunks; items = λ q f. sym (popped_none u.shape q f (ledger_after (ending u) (ledger_of u) ∷ []) (end.popped, tt)) };
    } in
    record { may = join; becomes = inr (ending u, ledger_of u, refl, may) }

-- ---- slots

-- an account has no chunks in it
same_chunks : (v u : FabricView) → MayBecome v u → u.chunks ≡ v.chunks
same_chunks v u (inl same) = ap (λ (y : FabricView). y.chunks) same
same_chunks v u (inr (a, c, is, may)) = ap (λ (y : FabricView). y.chunks) is

-- who has no chunk carries no slot
pub none_carried : {T : Type 0} (w : FabricView) (carried : List (ℕ × Option T)) → w.chunks ≡ [] → CarriesSlots (w, carried) → carried ≡ []
none_carried w [] chunks carries = refl
none_carried w (x ∷ xs) chunks carries = absurd (omega (arith, carries (λ k. 1), ap (weigh (λ (k : ℕ). 1)) chunks))
