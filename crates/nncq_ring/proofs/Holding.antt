-- What a seat of a ring with a table of its own still holds after a call, for callers who push several numbers.
use Rattle.std.proofs.Common.{ℕ, ◌≡◌, ◌≢◌, ◌<◌, ◌==◌, Bool, cond, List, [], ◌∷◌, refl, sym, ap, ◌∙◌, subst, arith}
use Rattle.std.proofs.lemmas.Bool.{eq-eqb}
use Rattle.unit_model.specs.Sharing.{Holds}
use Rattle.unit_model.specs.Weights.{weigh, is_number, without_first}
use Rattle.unit_model.proofs.Weights.{is_number_same, is_number_other, times_in_range}
use Rattle.nncq_ring.specs.declared.view.RingEvent.{RingEvent}
use Rattle.nncq_ring.specs.declared.view.RingEvent.TheVariants.{SawTail, SawHead, SawEntry, Pushed, Popped}
use Rattle.nncq_ring.specs.declared.view.RingView.{RingView}
use Rattle.nncq_ring.specs.Views.{held_by, events_of, does, makes, whole, without, holding}
use Rattle.nncq_ring.specs.Turns.{Chain, Tells, IsLook, AllLooks, AfterLooks, IsDone, IsWorn, IsGot, IsEmpty}
use Rattle.nncq_ring.proofs.Looking.{looks_keep}
use Rattle.nncq_ring.proofs.Stepping.{without_weighs}

pub whole_holds : (n i : ℕ) → i < n → Holds held_by i (whole n)
whole_holds n i lt = omega (arith, times_in_range i 0 n (omega arith) (omega (arith, lt)))

pub without_holds : (value i : ℕ) (v : RingView) → Holds held_by value v → i ≢ value → Holds held_by i v → Holds held_by i (without value v)
without_holds value i v mine other held = omega (arith, held, without_weighs (is_number i) value v mine, is_number_other i value (λ same. other (sym same)))

pub holding_same : (value : ℕ) (v : RingView) → Holds held_by value (holding value v)
holding_same value v = omega (arith, is_number_same value)

pub holding_holds : (value i : ℕ) (v : RingView) → Holds held_by i v → Holds held_by i (holding value v)
holding_holds value i v held = omega (arith, held)

-- ---- what events make of a view

abbrev pub does_all : List RingEvent → RingView → RingView
does_all [] v = v
does_all (e ∷ es) v = does e (does_all es v)

pub chain_is : (es : List RingEvent) (v u : RingView) → Chain makes es v u → u ≡ does_all es v
chain_is [] v u chain = chain
chain_is (e ∷ es) v u chain = chain.2 ∙ ap (does e) (chain_is es v chain.0 chain.1)

-- what some events, of which it is told which, make of what is held
told_held : (says : List RingEvent → Type 0) (events : List RingEvent) (v u : RingView) (told : Tells makes v u says) → told.0 ≡ events → u.held ≡ (does_all events v).held
told_held says events v u told are = ap (λ (w : RingView). w.held) (chain_is told.0 v u told.2 ∙ ap (λ (es : List RingEvent). does_all es v) are)

look_held : (e : RingEvent) (v u : RingView) → IsLook e → makes e v u → u.held ≡ v.held
look_held (SawTail tail) v u look is = ap (λ (w : RingView). w.held) is
look_held (SawHead head) v u look is = ap (λ (w : RingView). w.held) is
look_held (SawEntry place entry) v u look is = ap (λ (w : RingView). w.held) is
look_held (Pushed place value) v u look is = absurd (look tt)
look_held (Popped place value) v u look is = absurd (look tt)

-- looks leave what is held
pub looked_held : (v u : RingView) → Tells makes v u AllLooks → u.held ≡ v.held
looked_held v u told = looks_keep RingView makes (λ (w : RingView). w.held ≡ v.held) (λ e w x look is same. look_held e w x look is ∙ same) v u told refl

pub same_holds : (i : ℕ) (v u : RingView) → u.held ≡ v.held → Holds held_by i v → Holds held_by i u
same_holds i v u same held = subst (λ (xs : List ℕ). 0 < weigh (is_number i) xs) (sym same) held

-- ---- after a turn

pub done_held : (n value place : ℕ) (v u : RingView) → Tells makes v u (IsDone n value (events_of v) place) → u.held ≡ without_first (λ x. x == value) v.held
done_held n value place v u done = told_held (IsDone n value (events_of v) place) (SawTail done.1.tail ∷ Pushed place value ∷ SawEntry place done.1.entry ∷ SawTail place ∷ []) v u done done.1.told

pub worn_held : (n place : ℕ) (v u : RingView) → Tells makes v u (IsWorn n (events_of v) place) → u.held ≡ v.held
worn_held n place v u worn = told_held (IsWorn n (events_of v) place) (SawTail place ∷ []) v u worn worn.1.told

pub got_held : (n place value : ℕ) (v u : RingView) → Tells makes v u (IsGot n (events_of v) place value) → u.held ≡ value ∷ v.held
got_held n place value v u got = told_held (IsGot n (events_of v) place value) (Popped place value ∷ SawEntry place got.1.entry ∷ SawHead place ∷ []) v u got got.1.told

pub empty_held : (n place entry : ℕ) (v u : RingView) → Tells makes v u (IsEmpty n (events_of v) place entry) → u.held ≡ v.held
empty_held n place entry v u none = told_held (IsEmpty n (events_of v) place entry) (SawEntry place entry ∷ SawHead place ∷ []) v u none none.1.told

pub done_turn_holds : (n value place i : ℕ) (v u : RingView) → Tells makes v u (IsDone n value (events_of v) place) → Holds held_by value v → i ≢ value → Holds held_by i v → Holds held_by i u
done_turn_holds n value place i v u done mine other held = same_holds i (without value v) u (done_held n value place v u done) (without_holds value i v mine other held)

pub got_turn_holds : (n place value : ℕ) (v u : RingView) → Tells makes v u (IsGot n (events_of v) place value) → Holds held_by value u
got_turn_holds n place value v u got = same_holds value (holding value v) u (got_held n place value v u got) (holding_same value v)

-- ---- after turns that were repeated

pub done_holds : (n value place i : ℕ) (v u : RingView) → AfterLooks makes v (λ w. Tells makes w u (IsDone n value (events_of w) place)) → Holds held_by value v → i ≢ value → Holds held_by i v → Holds held_by i u
done_holds n value place i v u ends mine other held =
    let same = looked_held v ends.0 ends.1 in
    done_turn_holds n value place i ends.0 u ends.2 (same_holds value v ends.0 same mine) other (same_holds i v ends.0 same held)

pub worn_holds : (n place i : ℕ) (v u : RingView) → AfterLooks makes v (λ w. Tells makes w u (IsWorn n (events_of w) place)) → Holds held_by i v → Holds held_by i u
worn_holds n place i v u ends held = same_holds i v u (worn_held n place ends.0 u ends.2 ∙ looked_held v ends.0 ends.1) held

pub got_holds : (n place value i : ℕ) (v u : RingView) → AfterLooks makes v (λ w. Tells makes w u (IsGot n (events_of w) place value)) → Holds held_by i v → Holds held_by i u
got_holds n place value i v u ends held =
    let before : Holds held_by i ends.0 = same_holds i v ends.0 (looked_held v ends.0 ends.1) held in
    same_holds i (holding value ends.0) u (got_held n place value ends.0 u ends.2) (holding_holds value i ends.0 before)

-- the number that was taken
pub got_holds_it : (n place value : ℕ) (v u : RingView) → AfterLooks makes v (λ w. Tells makes w u (IsGot n (events_of w) place value)) → Holds held_by value u
got_holds_it n place value v u ends = got_turn_holds n place value ends.0 u ends.2

pub empty_holds : (n place entry i : ℕ) (v u : RingView) → AfterLooks makes v (λ w. Tells makes w u (IsEmpty n (events_of w) place entry)) → Holds held_by i v → Holds held_by i u
empty_holds n place entry i v u ends held = same_holds i v u (empty_held n place entry ends.0 u ends.2 ∙ looked_held v ends.0 ends.1) held

-- a seat that pushed all that it held holds nothing
pub done_alone : (n value place : ℕ) (v u : RingView) → AfterLooks makes v (λ w. Tells makes w u (IsDone n value (events_of w) place)) → v.held ≡ value ∷ [] → u.held ≡ []
done_alone n value place v u ends alone =
    done_held n value place ends.0 u ends.2
    ∙ ap (without_first (λ x. x == value)) (looked_held v ends.0 ends.1 ∙ alone)
    ∙ ap (λ (b : Bool). cond b [] (value ∷ [])) (eq-eqb value value refl)
