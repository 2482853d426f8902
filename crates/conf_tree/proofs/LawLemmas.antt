-- What was put, appended or removed, along whole paths.
use Rattle.std.proofs.Common.{◌≡◌, ℕ, zero, suc, Bool, true, false, List, [], ◌∷◌, ◌++◌, Option, Some, None, option_and_then, refl, sym, ap, ◌∙◌}
use Rattle.std.proofs.lemmas.Slice.Eq.{bytes_eq-Decides}
use Rattle.std.specs.Str.{bytes_eq}
use Rattle.serde_json.specs.Data.{Data, null, boolean, number, string, array, object, Items, no_items, item}
use Rattle.serde_json.specs.Find.{get_item}
use Rattle.conf_tree.specs.Document.{IsDocument}
use Rattle.conf_tree.specs.Laws.{IsGone, IsLonger, Part}
use Rattle.conf_tree.specs.Paths.{Change, changed, append, append_item, change_child, child, get, index_of, push_item, put, put_child, remove, remove_child}
use Rattle.conf_tree.proofs.Documents.{child_document}
use Rattle.conf_tree.proofs.LevelLemmas.{IsStep, at_changed, child_gone, child_other, child_put, step_of}

-- two keys are the same or they are not
same_or_not : {P : Type 0} (k l : List ℕ) → (k ≡ l → P) → ((k ≡ l → ⊥) → P) → P
same_or_not {P} k l f g = decided (bytes_eq k l) refl
  where
    decided : (b : Bool) → bytes_eq k l ≡ b → P
    decided true e = f ((bytes_eq-Decides k l).0 e)
    decided false e = g (λ same. let yes : bytes_eq k l ≡ true = (bytes_eq-Decides k l).1 same in cc (e, yes))

-- ---- through one key

get_through : (k : List ℕ) (ks : List (List ℕ)) (d c : Data) → child k d ≡ Some c → get (k ∷ ks) d ≡ get ks c
get_through k ks d c e = ap (option_and_then (get ks)) e

-- what a path gets that parts from the changed one, where it begins with the same key and where it doesn't
parted : (k l : List ℕ) (ls : List (List ℕ)) (f : Data → Change) (d e : Data) → IsStep k f d e → ((c c' : Data) → f c ≡ changed c' → k ≡ l → get ls c' ≡ get ls c) → get (l ∷ ls) e ≡ get (l ∷ ls) d
parted k l ls f d e step h =
    same_or_not k l
    (λ same.
    let had : child l d ≡ Some step.old = ap (λ n. child n d) (sym same) ∙ step.level.had in
    let has : child l e ≡ Some step.new = ap (λ n. child n e) (sym same) ∙ step.level.has in
    get_through l ls e step.new has ∙ h step.old step.new step.made same ∙ sym (get_through l ls d step.old had))
    (λ differ. ap (option_and_then (get ls)) (step.level.others l differ))

-- ---- put

pub put_got : (ks : List (List ℕ)) (v d e : Data) → put ks v d ≡ changed e → get ks e ≡ Some v
put_got [] v d e is = let same : v ≡ e = cc is in ap (λ x. Some x) (sym same)
put_got (k ∷ []) v d e is = get_through k [] e v (at_changed (λ x. child k x ≡ Some v) (put_child k v d) e (child_put k v d) is)
put_got (k ∷ l ∷ ks) v d e is =
    let step = at_changed (IsStep k (put (l ∷ ks) v) d) (change_child k (put (l ∷ ks) v) d (child k d)) e (step_of k (put (l ∷ ks) v) d (child k d) refl) is in
    get_through k (l ∷ ks) e step.new step.level.has ∙ put_got (l ∷ ks) v step.old step.new step.made

pub put_kept : (ks ls : List (List ℕ)) (v d e : Data) → put ks v d ≡ changed e → Part ks ls → get ls e ≡ get ls d
put_kept [] ls v d e is part = absurd part
put_kept (k ∷ ks) [] v d e is part = absurd part
put_kept (k ∷ []) (l ∷ ls) v d e is part =
    ap (option_and_then (get ls)) (at_changed (λ x. child l x ≡ child l d) (put_child k v d) e (child_other k l v d part) is)
put_kept (k ∷ m ∷ ks) (l ∷ ls) v d e is part =
    let step = at_changed (IsStep k (put (m ∷ ks) v) d) (change_child k (put (m ∷ ks) v) d (child k d)) e (step_of k (put (m ∷ ks) v) d (child k d) refl) is in
    parted k l ls (put (m ∷ ks) v) d e step (λ c c' made same. put_kept (m ∷ ks) ls v c c' made (part same))

-- ---- append

longer_here : (v d e : Data) → append_item v d ≡ changed e → IsLonger [] v d e
longer_here v null e is = absurd (cc is)
longer_here v (boolean b) e is = absurd (cc is)
longer_here v (number n) e is = absurd (cc is)
longer_here v (string s) e is = absurd (cc is)
longer_here v (array ds) e is = let same : array (push_item v ds) ≡ e = cc is in record { items = ds; had = refl; has = ap (λ x. Some x) (sym same) }
longer_here v (object ms) e is = absurd (cc is)

pub appended : (ks : List (List ℕ)) (v d e : Data) → append ks v d ≡ changed e → IsLonger ks v d e
appended [] v d e is = longer_here v d e is
appended (k ∷ ks) v d e is =
    let step = at_changed (IsStep k (append ks v) d) (change_child k (append ks v) d (child k d)) e (step_of k (append ks v) d (child k d) refl) is in
    let rest = appended ks v step.old step.new step.made in
    record {
      items = rest.items;
      had = get_through k ks d step.old step.level.had ∙ rest.had;
      has = get_through k ks e step.new step.level.has ∙ rest.has;
    }

pub append_kept : (ks ls : List (List ℕ)) (v d e : Data) → append ks v d ≡ changed e → Part ks ls → get ls e ≡ get ls d
append_kept [] ls v d e is part = absurd part
append_kept (k ∷ ks) [] v d e is part = absurd part
append_kept (k ∷ ks) (l ∷ ls) v d e is part =
    let step = at_changed (IsStep k (append ks v) d) (change_child k (append ks v) d (child k d)) e (step_of k (append ks v) d (child k d) refl) is in
    parted k l ls (append ks v) d e step (λ c c' made same. append_kept ks ls v c c' made (part same))

below_child : (ks ls : List (List ℕ)) (o : Option Data) → ((c : Data) → get (ks ++ ls) c ≡ option_and_then (get ls) (get ks c)) → option_and_then (get (ks ++ ls)) o ≡ option_and_then (get ls) (option_and_then (get ks) o)
below_child ks ls None h = refl
below_child ks ls (Some c) h = h c

get_behind : (ks ls : List (List ℕ)) (d : Data) → get (ks ++ ls) d ≡ option_and_then (get ls) (get ks d)
get_behind [] ls d = refl
get_behind (k ∷ ks) ls d = below_child ks ls (child k d) (λ c. get_behind ks ls c)

item_stays : (i : ℕ) (v x : Data) (ds : Items) → get_item i ds ≡ Some x → get_item i (push_item v ds) ≡ Some x
item_stays i v x no_items h = absurd (cc h)
item_stays zero v x (item d ds) h = h
item_stays (suc i) v x (item d ds) h = item_stays i v x ds h

-- what is found below an item is found there with one item more
found_below : (v x : Data) (ls : List (List ℕ)) (ds : Items) (o : Option ℕ) → option_and_then (get ls) (option_and_then (λ i. get_item i ds) o) ≡ Some x → option_and_then (get ls) (option_and_then (λ i. get_item i (push_item v ds)) o) ≡ Some x
found_below v x ls ds None h = absurd (cc h)
found_below v x ls ds (Some i) h = at_item (get_item i ds) refl h
  where
    at_item : (o : Option Data) → get_item i ds ≡ o → option_and_then (get ls) o ≡ Some x → option_and_then (get ls) (get_item i (push_item v ds)) ≡ Some x
    at_item None e h = absurd (cc h)
    at_item (Some c) e h = ap (option_and_then (get ls)) (item_stays i v c ds e) ∙ h

pub append_stays : (ks ls : List (List ℕ)) (k : List ℕ) (v d e x : Data) → append ks v d ≡ changed e → get (ks ++ k ∷ ls) d ≡ Some x → get (ks ++ k ∷ ls) e ≡ Some x
append_stays ks ls k v d e x is found =
    let whole = appended ks v d e is in
    let old : get (k ∷ ls) (array whole.items) ≡ Some x = sym (get_behind ks (k ∷ ls) d ∙ ap (option_and_then (get (k ∷ ls))) whole.had) ∙ found in
    get_behind ks (k ∷ ls) e ∙ ap (option_and_then (get (k ∷ ls))) whole.has ∙ found_below v x ls whole.items (index_of k) old

-- ---- remove

pub removed : (ks : List (List ℕ)) (k : List ℕ) (d e : Data) → IsDocument d → remove (ks ++ k ∷ []) d ≡ changed e → IsGone ks k d e
removed [] k d e document is = record { old = d; new = e; had = refl; has = refl; without = at_changed _ (remove_child k d) e (child_gone k d document) is }
removed (l ∷ []) k d e document is =
    let step = at_changed (IsStep l (remove (k ∷ [])) d) (change_child l (remove (k ∷ [])) d (child l d)) e (step_of l (remove (k ∷ [])) d (child l d) refl) is in
    let rest = removed [] k step.old step.new (child_document l d step.old document step.level.had) step.made in
    record {
      old = rest.old;
      new = rest.new;
      had = get_through l [] d step.old step.level.had ∙ rest.had;
      has = get_through l [] e step.new step.level.has ∙ rest.has;
      without = rest.without;
    }
removed (l ∷ m ∷ ks) k d e document is =
    let f = remove (m ∷ (ks ++ k ∷ [])) in
    let step = at_changed (IsStep l f d) (change_child l f d (child l d)) e (step_of l f d (child l d) refl) is in
    let rest = removed (m ∷ ks) k step.old step.new (child_document l d step.old document step.level.had) step.made in
    record {
      old = rest.old;
      new = rest.new;
      had = get_through l (m ∷ ks) d step.old step.level.had ∙ rest.had;
      has = get_through l (m ∷ ks) e step.new step.level.has ∙ rest.has;
      without = rest.without;
    }

pub remove_kept : (ks ls : List (List ℕ)) (k : List ℕ) (d e : Data) → remove (ks ++ k ∷ []) d ≡ changed e → Part ks ls → get ls e ≡ get ls d
remove_kept [] ls k d e is part = absurd part
remove_kept (a ∷ ks) [] k d e is part = absurd part
remove_kept (a ∷ []) (l ∷ ls) k d e is part =
    let f = remove (k ∷ []) in
    let step = at_changed (IsStep a f d) (change_child a f d (child a d)) e (step_of a f d (child a d) refl) is in
    parted a l ls f d e step (λ c c' made same. absurd (part same))
remove_kept (a ∷ b ∷ ks) (l ∷ ls) k d e is part =
    let f = remove (b ∷ (ks ++ k ∷ [])) in
    let step = at_changed (IsStep a f d) (change_child a f d (child a d)) e (step_of a f d (child a d) refl) is in
    parted a l ls f d e step (λ c c' made same. remove_kept (b ∷ ks) ls k c c' made (part same))
