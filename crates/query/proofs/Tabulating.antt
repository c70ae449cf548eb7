-- A table of a ball, entry after entry, and what is looked up in it.
use Rattle.std.proofs.Common.{◌≡◌, ℕ, ◌+◌, ◌-◌, ◌<◌, ◌≤◌, List, length, get_or, set, replicate, Some, None, sym, refl, ap, ◌∙◌, subst, ⊎_elim, arith, length-set}
use Rattle.std.proofs.lemmas.List.{get_or-set_same, get_or-set_other, get_or-replicate, get_or_past, get_or_default, length-replicate}
use Rattle.std.proofs.lemmas.Bool.{cases_eq, cases_lt}
use Rattle.shortest.proofs.Searching.{at_place}
use Rattle.shortest.proofs.Settled.{mem_place}
use Rattle.filling.specs.declared.places.Entry.{Entry}
use Rattle.query.specs.Lookup.{Tabled, FoundIn}

-- the entries below n are in the table
pub record Tabulating {V : Type 0} (ball : List (Entry V)) (n : ℕ) (table : List ℕ) : Type 0 where
  pub size : length table ≡ 4096
  pub inside : (s : ℕ) → 0 < get_or table s 0 → get_or table s 0 - 1 < length ball
  pub named : (s : ℕ) (d : Entry V) → 0 < get_or table s 0 → (get_or ball (get_or table s 0 - 1) d).site ≡ s
  pub whole : (j : ℕ) (d : Entry V) → j < n → (get_or ball j d).site < 4096 → 0 < get_or table (get_or ball j d).site 0

module _ {V : Type 0} (ball : List (Entry V)) where
  all_zero : (n s : ℕ) → ◌≡◌ {A = ℕ} (get_or (replicate n 0) s 0) 0
  all_zero n s = ⊎_elim (λ (lt : s < n). get_or-replicate n s 0 0 lt) (λ (le : n ≤ s). get_or_past (replicate n 0) s 0 (omega (arith, length-replicate {A = ℕ} n 0))) (cases_lt s n)

  pub none_tabled : (table : List ℕ) → table ≡ replicate 4096 0 → Tabulating ball 0 table
  none_tabled table is = record {
    size = ap length is ∙ length-replicate {A = ℕ} 4096 0;
    inside = λ s pos. let zero : get_or table s 0 ≡ 0 = ap (λ t. get_or t s 0) is ∙ all_zero 4096 s in absurd (omega arith);
    named = λ s d pos. let zero : get_or table s 0 ≡ 0 = ap (λ t. get_or t s 0) is ∙ all_zero 4096 s in absurd (omega arith);
    whole = λ j d lt inside. absurd (omega arith);
  }

  module _ (n : ℕ) (table : List ℕ) (t : Tabulating ball n table) (inside : n < length ball) (e : Entry V) (read : e ≡ get_or ball n e) where
    here : (d : Entry V) → (get_or ball n d).site ≡ e.site
    here d = ap (λ x. x.site) (get_or_default ball n d e inside ∙ sym read)

    -- an entry of a site beyond the table
    pub one_beyond : length table ≤ e.site → Tabulating ball (n + 1) table
    one_beyond past = record {
      size = t.size;
      inside = t.inside;
      named = t.named;
      whole = λ j d lt low.
          ⊎_elim (λ (less : j < n). t.whole j d less low)
          (λ (ge : n ≤ j). let same : j ≡ n = omega arith in let at : (get_or ball j d).site ≡ e.site = ap (λ i. (get_or ball i d).site) same ∙ here d in absurd (omega (arith, t.size)))
          (cases_lt j n);
    }

    pub one_tabled : e.site < length table → Tabulating ball (n + 1) (set table e.site (n + 1))
    one_tabled low = record {
      size = length-set table e.site (n + 1) ∙ t.size;
      inside = λ s pos.
          ⊎_elim (λ (same : s ≡ e.site). omega (arith, new s same, inside)) (λ (ne : s ≡ e.site → ⊥). subst (λ (m : ℕ). m - 1 < length ball) (sym (old s ne)) (t.inside s (omega (arith, pos, old s ne)))) (cases_eq s e.site);
      named = λ s d pos.
          ⊎_elim
          (λ (same : s ≡ e.site). let back : get_or (set table e.site (n + 1)) s 0 - 1 ≡ n = omega (arith, new s same) in ap (λ i. (get_or ball i d).site) back ∙ here d ∙ sym same)
          (λ (ne : s ≡ e.site → ⊥). subst (λ (m : ℕ). (get_or ball (m - 1) d).site ≡ s) (sym (old s ne)) (t.named s d (omega (arith, pos, old s ne))))
          (cases_eq s e.site);
      whole = λ j d lt inner.
          ⊎_elim
          (λ (same : (get_or ball j d).site ≡ e.site). let is : get_or (set table e.site (n + 1)) (get_or ball j d).site 0 ≡ n + 1 = new (get_or ball j d).site same in omega arith)
          (λ (ne : (get_or ball j d).site ≡ e.site → ⊥).
          let pos : 0 < get_or table (get_or ball j d).site 0 =
          ⊎_elim (λ (less : j < n). t.whole j d less inner) (λ (ge : n ≤ j). let at : j ≡ n = omega arith in absurd (ne (ap (λ i. (get_or ball i d).site) at ∙ here d))) (cases_lt j n) in
          omega (arith, pos, old (get_or ball j d).site ne))
          (cases_eq (get_or ball j d).site e.site);
    }
      where
        new : (s : ℕ) → s ≡ e.site → get_or (set table e.site (n + 1)) s 0 ≡ n + 1
        new s same = ap (λ i. get_or (set table e.site (n + 1)) i 0) same ∙ get_or-set_same table e.site (n + 1) 0 low

        old : (s : ℕ) → (s ≡ e.site → ⊥) → get_or (set table e.site (n + 1)) s 0 ≡ get_or table s 0
        old s ne = get_or-set_other table e.site s (n + 1) 0 ne

  -- ---- looking up

  module _ (table : List ℕ) (t : Tabled ball table) (site : ℕ) where
    pub not_there : get_or table site 0 ≡ 0 → FoundIn ball site None
    not_there zero e m same =
        let at = mem_place e ball m in
        ⊎_elim
        (λ (low : site < 4096).
        let is : (get_or ball at.0 e).site ≡ site = ap (λ x. x.site) (at.2 e) ∙ same in
        let pos = t.whole at.0 e at.1 (omega arith) in
        let eq : get_or table (get_or ball at.0 e).site 0 ≡ 0 = ap (λ i. get_or table i 0) is ∙ zero in
        absurd (omega arith))
        (λ (high : 4096 ≤ site). high)
        (cases_lt site 4096)

    pub there_at : 0 < get_or table site 0 → (d : Entry V) → FoundIn ball site (Some (get_or ball (get_or table site 0 - 1) d).distance)
    there_at pos d = (get_or ball (get_or table site 0 - 1) d, at_place ball (get_or table site 0 - 1) d (t.inside site pos), t.named site d pos, refl)
