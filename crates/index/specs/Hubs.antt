-- The hub list: the hubs by ascending site number, then blanks.
use Rattle.std.specs.Prelude.{ℕ, suc, ◌-◌, Bool, true, false, cond, ◌&&◌, ◌||◌, List, [], ◌∷◌, ◌++◌, map, length, take, drop, replicate, Some, None, Ok, Err, Option, Result, ◌==◌, nat_le, nat_lt}

-- so many hub places that hold these hubs, then blanks
abbrev pub listing : ℕ → List ℕ → List (Option ℕ)
listing places hubs = map (λ h. Some h) hubs ++ replicate (places - length hubs) None

-- whether the site is one of the hubs
abbrev pub has : ℕ → List ℕ → Bool
has s [] = false
has s (h ∷ hs) = h == s || has s hs

-- ascending hubs with one more in its place
abbrev pub insert : ℕ → List ℕ → List ℕ
insert s [] = s ∷ []
insert s (h ∷ hs) = cond (nat_lt s h) (s ∷ h ∷ hs) (h ∷ insert s hs)

-- the hubs without this one
abbrev pub without : ℕ → List ℕ → List ℕ
without s [] = []
without s (h ∷ hs) = cond (h == s) (without s hs) (h ∷ without s hs)

-- how many hubs at the start of the list are below the site
abbrev pub rank : ℕ → List ℕ → ℕ
rank s [] = 0
rank s (h ∷ hs) = cond (nat_lt h s) (suc (rank s hs)) 0

-- the place of the site among ascending hubs, or the place where it would come
abbrev pub sought : ℕ → List ℕ → Result ℕ ℕ
sought s hs = cond (has s hs) (Ok (rank s hs)) (Err (rank s hs))

-- what stands from `at` to before `to` moves up by one place, over what stood at `to`, and y comes to `at`
abbrev pub moved_up : {X : Type 0} → ℕ → ℕ → X → List X → List X
moved_up to at y xs = take at xs ++ (y ∷ (take (to - at) (drop at xs) ++ drop (suc to) xs))

-- what stands after `at` and before `to` moves down by one place, over what stood at `at`, and y comes to the last of them
abbrev pub moved_down : {X : Type 0} → ℕ → ℕ → X → List X → List X
moved_down to at y xs = take at xs ++ (take (to - suc at) (drop (suc at) xs) ++ (y ∷ drop to xs))

-- ---- what every book keeps of its hub list

abbrev pub blanks : List (Option ℕ) → Bool
blanks [] = true
blanks (None ∷ places) = blanks places
blanks (Some h ∷ places) = false

-- hubs from `low` on ascend and are sites, and blanks follow
abbrev pub ordered : ℕ → ℕ → List (Option ℕ) → Bool
ordered low sites [] = true
ordered low sites (None ∷ places) = blanks places
ordered low sites (Some h ∷ places) = (nat_le low h && nat_lt h sites) && ordered (suc h) sites places
