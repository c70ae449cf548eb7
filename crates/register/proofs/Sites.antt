-- What the memory keeps of one site, while a new link comes into the chains.
use Rattle.std.proofs.Common.{◌≡◌, ℕ, suc, ◌+◌, ◌<◌, true, false, List, [], ◌∷◌, ◌++◌, map, length, get_or, take, drop, set, Some, None, Option, sym, refl, ap, ◌∙◌, subst, arith, length-set, get_or-set_other, get_or-set_same, drop-set-lt}
use Rattle.std.proofs.lemmas.Bool.{cond-true, cond-false}
use Rattle.register.specs.Chains.{ends_of, meets, first_from, last_from, or_else, with_next, pointed, ended}
use Rattle.register.specs.Memories.{no_chain}
use Rattle.register.specs.declared.memory.LinkRecord.{LinkRecord}
use Rattle.register.specs.declared.memory.SiteChain.{SiteChain}
use Rattle.network.proofs.Alterations.{length-altered, take-altered, drop-altered, map-altered_unseen}
use Rattle.register.proofs.Firsts.{or_else_empty, first_push, last_push, last_found}
use Rattle.register.proofs.Joins.{Side, one_side, other_side, Named, named_push, named_unmet, named_pointed, named_elsewhere}

-- the chain of the site u, and what its records name, among links with the ends es
pub record Site {V : Type 0} (u : ℕ) (es : List (ℕ × ℕ)) (cs : List SiteChain) (rs : List (LinkRecord V)) : Type 0 where
  pub first : (d : SiteChain) → (get_or cs u d).first ≡ first_from u 0 es
  pub last : (d : SiteChain) → (get_or cs u d).last ≡ last_from u 0 es
  pub ones : Named one_side u es rs
  pub others : Named other_side u es rs

-- the number n came to the end of the site u
pub record Appended {V : Type 0} (u n : ℕ) (cs cs' : List SiteChain) (rs rs' : List (LinkRecord V)) : Type 0 where
  pub chains : (d : SiteChain) → cs' ≡ set cs u (ended n (get_or cs u d))
  pub records : (d : SiteChain) → rs' ≡ pointed u n (get_or cs u d).last rs

-- ---- what it leaves as it was

length-pointed : {V : Type 0} (u n : ℕ) (o : Option ℕ) (rs : List (LinkRecord V)) → length (pointed u n o rs) ≡ length rs
length-pointed u n None rs = refl
length-pointed u n (Some i) rs = length-altered (with_next u n) i rs

take-pointed : {V : Type 0} (u n k : ℕ) (o : Option ℕ) (rs : List (LinkRecord V)) → take k (pointed u n o rs) ≡ pointed u n o (take k rs)
take-pointed u n k None rs = refl
take-pointed u n k (Some i) rs = take-altered (with_next u n) k i rs

drop-pointed : {V : Type 0} (u n k : ℕ) (o : Option ℕ) (rs : List (LinkRecord V)) → ((i : ℕ) → o ≡ Some i → i < k) → drop k (pointed u n o rs) ≡ drop k rs
drop-pointed u n k None rs h = refl
drop-pointed u n k (Some i) rs h = drop-altered (with_next u n) k i rs (h i refl)

map-pointed : {V Y : Type 0} (h : LinkRecord V → Y) → ((u n : ℕ) (r : LinkRecord V) → h (with_next u n r) ≡ h r) → (u n : ℕ) (o : Option ℕ) (rs : List (LinkRecord V)) → map h (pointed u n o rs) ≡ map h rs
map-pointed h unseen u n None rs = refl
map-pointed h unseen u n (Some i) rs = map-altered_unseen (with_next u n) h (unseen u n) i rs

module _ {V : Type 0} (u n : ℕ) (cs cs' : List SiteChain) (rs rs' : List (LinkRecord V)) (a : Appended u n cs cs' rs rs') where
  pub chains_length : length cs' ≡ length cs
  chains_length = ap length (a.chains no_chain) ∙ length-set cs u (ended n (get_or cs u no_chain))

  pub records_length : length rs' ≡ length rs
  records_length = ap length (a.records no_chain) ∙ length-pointed u n (get_or cs u no_chain).last rs

  pub chains_spared : (k : ℕ) → u < k → drop k cs' ≡ drop k cs
  chains_spared k lt = ap (drop k) (a.chains no_chain) ∙ drop-set-lt k cs u (ended n (get_or cs u no_chain)) lt

  pub records_spared : (k : ℕ) → ((i : ℕ) → (get_or cs u no_chain).last ≡ Some i → i < k) → drop k rs' ≡ drop k rs
  records_spared k h = ap (drop k) (a.records no_chain) ∙ drop-pointed u n k (get_or cs u no_chain).last rs h

  -- what a function tells of records that does not see what they name
  pub records_unseen : {Y : Type 0} (h : LinkRecord V → Y) → ((u n : ℕ) (r : LinkRecord V) → h (with_next u n r) ≡ h r) → map h rs' ≡ map h rs
  records_unseen h unseen = ap (map h) (a.records no_chain) ∙ map-pointed h unseen u n (get_or cs u no_chain).last rs

  pub at_front : (k : ℕ) → Appended u n cs cs' (take k rs) (take k rs')
  at_front k = record { chains = a.chains; records = λ d. ap (take k) (a.records d) ∙ take-pointed u n k (get_or cs u d).last rs }

-- the last number of a chain is the number of a link
pub last_below : {V : Type 0} (u i : ℕ) (es : List (ℕ × ℕ)) (cs : List SiteChain) (rs : List (LinkRecord V)) (d : SiteChain) → Site u es cs rs → (get_or cs u d).last ≡ Some i → i < length es
last_below u i es cs rs d s e = let l = last_found u 0 i es (sym (s.last d) ∙ e) in omega (arith, l.number, l.below)

-- ---- one site

module _ {V : Type 0} (u n : ℕ) (cs cs' : List SiteChain) (rs rs' : List (LinkRecord V)) (a : Appended u n cs cs' rs rs') where
  -- the site at whose end the number came
  pub here : (es : List (ℕ × ℕ)) (e : ℕ × ℕ) → u < length cs → n ≡ length es → map ends_of rs ≡ es ++ e ∷ [] → meets u e ≡ true → Site u es cs rs → Site u (es ++ e ∷ []) cs' rs'
  here es e lt size ends met s =
      let chain : (d : SiteChain) → get_or cs' u d ≡ ended n (get_or cs u d) = λ d. ap (λ xs. get_or xs u d) (a.chains d) ∙ get_or-set_same cs u (ended n (get_or cs u d)) d lt in
      let sum : n ≡ 0 + length es = omega arith in
      record {
        first = λ d.
            ap (λ c. c.first) (chain d) ∙ ap (λ o. or_else o (Some n)) (s.first d)
            ∙ sym (first_push u 0 n es e sum ∙ ap (or_else (first_from u 0 es)) (cond-true (meets u e) _ _ met));
        last = λ d. ap (λ c. c.last) (chain d) ∙ sym (last_push u 0 n es e sum ∙ cond-true (meets u e) _ _ met);
        ones = λ k d. named k d one_side s.ones;
        others = λ k d. named k d other_side s.others;
      }
    where
      named : (k : ℕ) (d : LinkRecord V) (side : Side V) → Named side u es rs → k < length rs' → side.end (get_or rs' k d) ≡ u → side.next (get_or rs' k d) ≡ first_from u (suc k) (drop (suc k) (es ++ e ∷ []))
      named k d side h =
          let written : rs' ≡ pointed u n (last_from u 0 es) rs = a.records no_chain ∙ ap (λ o. pointed u n o rs) (s.last no_chain) in
          subst (λ xs. Named side u (es ++ e ∷ []) xs) (sym written) (named_pointed side u n es e rs size ends met h) k d

  -- another site
  pub elsewhere : (v : ℕ) (es : List (ℕ × ℕ)) → (v ≡ u → ⊥) → Site v es cs rs → Site v es cs' rs'
  elsewhere v es ne s =
      let chain : (d : SiteChain) → get_or cs' v d ≡ get_or cs v d = λ d. ap (λ xs. get_or xs v d) (a.chains d) ∙ get_or-set_other cs u v (ended n (get_or cs u d)) d ne in
      record {
        first = λ d. ap (λ c. c.first) (chain d) ∙ s.first d;
        last = λ d. ap (λ c. c.last) (chain d) ∙ s.last d;
        ones = subst (λ xs. Named one_side v es xs) (sym (a.records no_chain)) (named_elsewhere one_side v u n (get_or cs u no_chain).last es rs ne s.ones);
        others = subst (λ xs. Named other_side v es xs) (sym (a.records no_chain)) (named_elsewhere other_side v u n (get_or cs u no_chain).last es rs ne s.others);
      }

-- a site that the new link does not meet
pub unmet : {V : Type 0} (u : ℕ) (es : List (ℕ × ℕ)) (e : ℕ × ℕ) (cs : List SiteChain) (rs : List (LinkRecord V)) → length rs ≡ suc (length es) → meets u e ≡ false → Site u es cs rs → Site u (es ++ e ∷ []) cs rs
unmet u es e cs rs size apart s =
    let sum : length es ≡ 0 + length es = omega arith in
    record {
      first = λ d. s.first d ∙ sym (first_push u 0 (length es) es e sum ∙ ap (or_else (first_from u 0 es)) (cond-false (meets u e) _ _ apart) ∙ or_else_empty (first_from u 0 es));
      last = λ d. s.last d ∙ sym (last_push u 0 (length es) es e sum ∙ cond-false (meets u e) _ _ apart);
      ones = named_unmet one_side u es e rs size apart s.ones;
      others = named_unmet other_side u es e rs size apart s.others;
    }

-- the new record, before its number comes into any chain
pub put_last : {V : Type 0} (u : ℕ) (es : List (ℕ × ℕ)) (cs : List SiteChain) (rs : List (LinkRecord V)) (r : LinkRecord V) → length es ≡ length rs → r.next_one ≡ None → r.next_other ≡ None → Site u es cs rs → Site u es cs (rs ++ r ∷ [])
put_last u es cs rs r size one other s = record {
  first = s.first;
  last = s.last;
  ones = named_push one_side u es rs r size one s.ones;
  others = named_push other_side u es rs r size other s.others;
}
