-- The entries of a ball: the settled labels of a search, written in their order.
use Rattle.std.proofs.Common.{◌≡◌, ℕ, ◌+◌, ◌-◌, ◌<◌, ◌≤◌, List, length, get_or, take, drop, set, Some, None, Option, sym, ap, ◌∙◌, subst, ⊎_elim, arith, length-set}
use borrow.Rule.Slice.PartMut.{put_mid, mid_len}
use Rattle.std.proofs.lemmas.List.{get_or_default, get_or-set_same, get_or-set_other, get_or-take, length-take-le}
use Rattle.std.proofs.lemmas.Bool.{cases_lt}
use Rattle.std.proofs.lemmas.Bool.Decides.{nat_tests}
use Rattle.weight.specs.Algebra.{Algebra}
use Rattle.network.specs.Graph.{Graph}
use Rattle.shortest.specs.Finding.{source_label}
use Rattle.shortest.specs.Queues.{settled_labels}
use Rattle.shortest.specs.Searches.{SearchedIn, label_in_order, order_of}
use Rattle.shortest.specs.declared.waiting.Label.{Label}
use Rattle.shortest.specs.declared.waiting.Waiting.{Waiting}
use Rattle.shortest.proofs.Settled.{mem_place}
use Rattle.filling.specs.Balls.{order_or_first, entry_of, entry_or, Written, Laid, BallFilled}
use Rattle.filling.specs.Standing.{Entered}
use Rattle.filling.specs.declared.places.Entry.{Entry}
use Rattle.filling.proofs.Parts.{length-put, get_or-put_before, get_or-put_inside, get_or-put_after}

-- ---- writing the labels

-- the first n entries of a part took the settled labels; later entries are as they were
pub record Writing {V : Type 0} (first : ℕ) (ws : List (Waiting V)) (sites : ℕ) (part : List (Entry V)) (n : ℕ) (part' : List (Entry V)) : Type 0 where
  pub size : length part' ≡ length part
  pub taken : (j : ℕ) (d : Entry V) → j < n → get_or part' j d ≡ entry_or first ws sites (label_in_order ws sites j) (get_or part j d)
  pub later : (j : ℕ) (d : Entry V) → n ≤ j → get_or part' j d ≡ get_or part j d

module _ {V : Type 0} {first : ℕ} {ws : List (Waiting V)} {sites : ℕ} {part : List (Entry V)} {n : ℕ} {part' : List (Entry V)} (w : Writing first ws sites part n part') where
  pub one_skipped : None ≡ label_in_order ws sites n → Writing first ws sites part (n + 1) part'
  one_skipped none = record {
    size = w.size;
    taken = λ j d lt.
        ⊎_elim
        (λ (low : j < n). w.taken j d low)
        (λ (high : n ≤ j). let same : j ≡ n = omega arith in rw same (w.later n d (omega arith) ∙ ap (λ o. entry_or first ws sites o (get_or part n d)) none))
        (cases_lt j n);
    later = λ j d le. w.later j d (omega arith);
  }

  pub one_written : {x : Label V} {e : Entry V} → n < length part → Some x ≡ label_in_order ws sites n → e ≡ entry_of first ws sites x → Writing first ws sites part (n + 1) (set part' n e)
  one_written {x = x} {e = e} inside some is = record {
    size = length-set part' n e ∙ w.size;
    taken = λ j d lt.
        ⊎_elim
        (λ (low : j < n). get_or-set_other part' n j e d (λ same. omega arith) ∙ w.taken j d low)
        (λ (high : n ≤ j).
        let same : j ≡ n = omega arith in
        rw same (get_or-set_same part' n e d (omega (arith, w.size)) ∙ is ∙ ap (λ o. entry_or first ws sites o (get_or part n d)) some))
        (cases_lt j n);
    later = λ j d le. get_or-set_other part' n j e d (λ same. omega arith) ∙ w.later j d (omega arith);
  }

-- ---- what a search left, as entries

module _ {V : Type 0} (k : Algebra V) (g : Graph V) (v : ℕ) (radius : Option V) (ws ws' : List (Waiting V)) (n : ℕ) (s : SearchedIn k g v radius ws n ws') (first : ℕ) where
  abbrev xs : List (Label V)
  xs = settled_labels ws' g.sites n

  settled_entry : (j : ℕ) (d : Label V) (e : Entry V) → j < n → entry_or first ws' g.sites (label_in_order ws' g.sites j) e ≡ entry_of first ws' g.sites (get_or xs j d)
  settled_entry j d e lt =
      let there : label_in_order ws' g.sites j ≡ Some (get_or xs j d) = grind (arith, nat_tests, s.few, s.labels j lt d) in
      ap (λ o. entry_or first ws' g.sites o e) there

  order_there : (i : ℕ) (d : Label V) → i < n → order_of ws' g.sites (get_or xs i d).site ≡ Some i
  order_there i d lt = let at = s.placed i lt d in grind (arith, nat_tests, s.few)

  -- the entry of a label whose site before has the i-th label
  before_is : (i j : ℕ) (d : Label V) → i < n → (get_or xs i d).site ≡ (get_or xs j d).before → (entry_of first ws' g.sites (get_or xs j d)).before ≡ first + i
  before_is i j d lt same = ap (λ o. first + order_or_first o) (ap (order_of ws' g.sites) (sym same) ∙ order_there i d lt)

  abbrev source : Label V
  source = source_label k v

  entered : (j : ℕ) (e : Entry V) → j < n → ((d : Label V) → e ≡ entry_of first ws' g.sites (get_or xs j d)) → Entered first xs j e
  entered j e lt is = record {
    site = λ d. ap (λ x. x.site) (is d);
    distance = λ d. ap (λ x. x.distance) (is d);
    mark = λ d. ap (λ x. x.mark) (is d);
    own = own;
    before = before;
  }
    where
      own : j ≡ 0 → e.before ≡ first
      own zeroth =
          let head : get_or xs 0 source ≡ source = s.found.first source (omega (arith, s.count)) in
          let same : (get_or xs 0 source).site ≡ (get_or xs j source).before = ap (λ x. x.site) head ∙ sym (ap (λ i. (get_or xs i source).before) zeroth ∙ ap (λ x. x.before) head) in
          ap (λ x. x.before) (is source) ∙ before_is 0 j source (omega arith) same ∙ omega arith

      before : 0 < j → (i : ℕ) × (i < j) × ((d : Label V) → (get_or xs i d).site ≡ (get_or xs j d).before) × (e.before ≡ first + i)
      before pos =
          let inside : j < length xs = omega (arith, s.count) in
          let on = s.found.others j source pos inside in
          let r = mem_place on.from (take j xs) on.among in
          let low : r.0 < j = omega (arith, r.1, length-take-le j xs (omega arith)) in
          let same : (d : Label V) → (get_or xs r.0 d).site ≡ (get_or xs j d).before = λ d.
          ap (λ x. x.site) (sym (get_or-take j xs r.0 d low) ∙ r.2 d) ∙ on.is_before ∙ ap (λ x. x.before) (get_or_default xs j source d inside) in
          (r.0, low, same, ap (λ x. x.before) (is source) ∙ before_is r.0 j source (omega arith) (same source))

  -- the part of the entries from `first` on took them
  module _ (entries part : List (Entry V)) (end : ℕ) (whole : end ≡ first + n) (fits : end ≤ length entries) (sites : ℕ) (as_many : sites ≡ g.sites)
      (wrote : Written first ws' sites (take (end - first) (drop first entries)) part) where
    written : Written first ws' g.sites (take (end - first) (drop first entries)) part
    written = subst (λ m. Written first ws' m (take (end - first) (drop first entries)) part) as_many wrote

    inside : first + (end - first) ≤ length entries
    inside = omega arith

    mid_long : length (take (end - first) (drop first entries)) ≡ end - first
    mid_long = mid_len first end entries fits

    long : length part ≡ end - first
    long = written.size ∙ mid_long

    ball_laid : Laid k g v radius first n entries (put_mid first (end - first) entries part)
    ball_laid = record {
      labels = xs;
      found = s.found;
      count = sym s.count;
      room = omega arith;
      entered = λ j d lt.
          entered j _ lt (λ x. get_or-put_inside first (end - first) entries part inside long j d (omega arith) ∙ written.each j d (omega (arith, mid_long)) ∙ settled_entry j x _ lt);
      earlier = λ i d lt. get_or-put_before first (end - first) entries part inside long i d lt;
      later = λ i d le. get_or-put_after first (end - first) entries part inside long i d (omega arith);
    }

    pub ball_filled : BallFilled k g v radius first (Some n) entries (put_mid first (end - first) entries part) ws ws'
    ball_filled = record {
      size = length-put first (end - first) entries part inside long;
      spared = record { size = s.size; beyond = s.beyond };
      laid = ball_laid;
    }
