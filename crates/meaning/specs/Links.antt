-- Making and taking away links: link, and the ring of unlink, unwatched, dispose and purge.
use Rattle.std.specs.Prelude.{Bool, true, false, not, ◌&&◌, ◌||◌, List, [], ◌∷◌, ◌++◌, ℕ, zero, suc, ◌+◌, eqb, leb, ltb, length, Option, None, Some}
use Rattle.meaning.specs.State.{St, on, f0, f17}
use Rattle.meaning.specs.Reserve.{reserve}
use Rattle.meaning.specs.Setters.{with_free, with_stuck, set_done, set_rest, set_subs, set_live, set_dep, set_sub, set_ver, set_fl, set_gone}

-- the operation cannot go on
abbrev pub stop : St → St
stop s = with_stuck s true

-- it can go on only where b holds
unfoldable pub provided : Bool → St → St
provided b s = elim b [ true ↦ s | false ↦ stop s ]

-- ---- lists of slots
abbrev pub head_of : List ℕ → Option ℕ
head_of [] = None
head_of (x ∷ xs) = Some x

abbrev pub last_of : List ℕ → Option ℕ
last_of [] = None
last_of (x ∷ xs) = elim (last_of xs) [ None ↦ Some x | Some y ↦ Some y ]

abbrev pub is_nil : List ℕ → Bool
is_nil [] = true
is_nil (x ∷ xs) = false

-- two or more
abbrev pub several : List ℕ → Bool
several [] = false
several (x ∷ xs) = not (is_nil xs)

unfoldable pub remove : ℕ → List ℕ → List ℕ
remove l [] = []
remove l (x ∷ xs) = elim (eqb x l) [ true ↦ remove l xs | false ↦ x ∷ remove l xs ]

-- f for each slot of the list, in order
unfoldable pub each : (St → ℕ → St) → St → List ℕ → St
each f s [] = s
each f s (l ∷ ls) = each f (f s l) ls

-- ---- link d u v: u reads (or owns) d, at version v
abbrev pub goes_to : St → Option ℕ → ℕ → Bool
goes_to s o d = on o (λ l. eqb (s.dep l) d)

abbrev pub is_from : St → Option ℕ → ℕ → ℕ → Bool
is_from s o u v = on o (λ l. eqb (s.ver l) v && eqb (s.sub l) u)

-- the next old link is taken over: the cursor passes it
unfoldable pub renew : St → ℕ → ℕ → List ℕ → St
renew s u v [] = stop s
renew s u v (l ∷ ls) = set_rest (set_done (set_ver s l v) u (s.done u ++ l ∷ [])) u ls

-- as many links are live as the reserve allows, or it exceeds the link slots
unfoldable pub spent : St → Bool
spent s = leb (reserve s + length s.free) s.room.slots || ltb s.room.slots (reserve s)

-- a new link at the cursor, in the slot that was freed last; stuck if none is free, or the reserve is spent
unfoldable pub insert : St → ℕ → ℕ → ℕ → List ℕ → St
insert s d u v [] = stop s
insert s d u v (l ∷ ls) =
    with_stuck (set_subs (set_done (set_ver (set_sub (set_dep (set_live (with_free s ls) l true) l d) l u) l v) u (s.done u ++ l ∷ [])) d (s.subs d ++ l ∷ [])) (s.stuck || spent s)

-- the link before the cursor goes to d; the one after it does; the newest of d is of u at this version; else a new one
unfoldable pub link : St → ℕ → ℕ → ℕ → St
link s d u v =
    let unless_next : St = elim (is_from s (last_of (s.subs d)) u v) [ true ↦ s | false ↦ insert s d u v s.free ] in
    let unless_last : St = elim (goes_to s (head_of (s.rest u)) d) [ true ↦ renew s u v (s.rest u) | false ↦ unless_next ] in
    elim (goes_to s (last_of (s.done u)) d) [ true ↦ s | false ↦ unless_last ]

-- ---- the ring; ul is unlink
-- the link leaves both lists, and its slot is free before anything else happens
unfoldable pub cut : St → ℕ → St
cut s l =
    let d = s.dep l in
    let u = s.sub l in
    with_free (set_live (set_subs (set_rest (set_done s u (remove l (s.done u))) u (remove l (s.rest u))) d (remove l (s.subs d))) l false) (l ∷ s.free)

-- the cursor before the first dependency
abbrev pub rewind : St → ℕ → St
rewind s u = set_rest (set_done s u []) u (s.done u ++ s.rest u)

-- the links after the cursor go
abbrev pub purge_w : (St → ℕ → St) → St → ℕ → St
purge_w ul s u = each ul s (s.rest u)

unfoldable pub last_link : (St → ℕ → St) → St → Option ℕ → St
last_link ul s None = s
last_link ul s (Some l) = ul s l

-- gone for good, with all links, the one to its owner last
unfoldable pub dispose_w : (St → ℕ → St) → St → ℕ → St
dispose_w ul s x =
    let t = purge_w ul (set_gone (set_fl (rewind s x) x f0) x true) x in
    last_link ul t (head_of (t.subs x))

-- d has lost its last subscriber: an effect or a scope is disposed; a computed with dependencies becomes 17 and drops them
unfoldable pub unwatched_w : (St → ℕ → St) → St → ℕ → St
unwatched_w ul s d =
    let dropped : St = elim (is_nil (s.done d)) [ true ↦ s | false ↦ purge_w ul (set_fl (rewind s d) d f17) d ] in
    elim (s.fl d).mutable [ true ↦ dropped | false ↦ dispose_w ul s d ]

-- stuck where the budget ends, or the slot is free already
unfoldable pub unlink_n : ℕ → St → ℕ → St
unlink_n zero s l = stop s
unlink_n (suc k) s l =
    let unlinked : St = elim (is_nil ((cut s l).subs (s.dep l))) [ true ↦ unwatched_w (unlink_n k) (cut s l) (s.dep l) | false ↦ cut s l ] in
    elim (s.live l) [ true ↦ unlinked | false ↦ stop s ]

-- the number of slots is budget enough: each unlink frees one before it calls on
abbrev pub budget : St → ℕ
budget s = suc s.room.slots

abbrev pub unlink : St → ℕ → St
unlink s l = unlink_n (budget s) s l

abbrev pub purge : St → ℕ → St
purge s u = purge_w (unlink_n (budget s)) s u

abbrev pub dispose : St → ℕ → St
dispose s x = dispose_w (unlink_n (budget s)) s x
