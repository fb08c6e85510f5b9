-- Stories that go on, told or not, and the tales of a world over them.
use Rattle.std.specs.Option.{ForSome, option_map}
use Rattle.std.specs.Prelude.{IfSome}
use Rattle.std.proofs.Common.{◌≡◌, ◌⊎◌, inl, inr, Option, Some, None, refl, sym, ◌∙◌, ap, subst}
use Rattle.std.proofs.lemmas.Option.{same_Some}
use Rattle.quilt_world.specs.Tale.{Tale, Goes}
use Rattle.quilt_host.specs.Story.{Story}

-- ---- steps

pub steps_here : (R : Story → Story → Type 0) (o : Option Story) → ((s : Story) → R s s) → Goes R o o
steps_here R None here = tt
steps_here R (Some s) here = here s

pub steps_same : (R : Story → Story → Type 0) (o n : Option Story) → n ≡ o → ((s : Story) → R s s) → Goes R o n
steps_same R o n same here = subst (λ (x : Option Story). Goes R o x) (sym same) (steps_here R o here)

-- with what holds of it
pub steps_first : (P : Story → Type 0) (R : Story → Story → Type 0) (o : Option Story) → IfSome o P → ((s : Story) → P s → R s s) → Goes R o o
steps_first P R None known here = tt
steps_first P R (Some s) known here = here s known

pub if_some_both : (P Q R : Story → Type 0) (o : Option Story) → IfSome o P → IfSome o Q → ((s : Story) → P s → Q s → R s) → IfSome o R
if_some_both P Q R None p q both = tt
if_some_both P Q R (Some s) p q both = both s p q

pub if_some_moved : (P : Story → Type 0) (o m : Option Story) → m ≡ o → IfSome m P → IfSome o P
if_some_moved P o m same p = subst (λ (x : Option Story). IfSome x P) same p

pub if_some_all : (P : Story → Type 0) (o : Option Story) → ((s : Story) → P s) → IfSome o P
if_some_all P None all = tt
if_some_all P (Some s) all = all s

pub steps_then : (R S T : Story → Story → Type 0) (o m n : Option Story) → Goes R o m → Goes S m n → ((t u v : Story) → R t u → S u v → T t v)
    → Goes T o n
steps_then R S T None None None r s step = tt
steps_then R S T None None (Some v) r s step = s
steps_then R S T None (Some u) n r s step = absurd r
steps_then R S T (Some t) None n r s step = absurd r
steps_then R S T (Some t) (Some u) None r s step = s
steps_then R S T (Some t) (Some u) (Some v) r s step = step t u v r s

pub steps_weaker : (R T : Story → Story → Type 0) (o n : Option Story) → Goes R o n → ((t u : Story) → R t u → T t u) → Goes T o n
steps_weaker R T None None r step = tt
steps_weaker R T None (Some u) r step = r
steps_weaker R T (Some t) None r step = r
steps_weaker R T (Some t) (Some u) r step = step t u r

-- a step before which nothing was done
pub steps_from : (R : Story → Story → Type 0) (o m n : Option Story) → m ≡ o → Goes R m n → Goes R o n
steps_from R o m n same r = subst (λ (x : Option Story). Goes R x n) same r

-- a step after which nothing was done
pub steps_to : (R : Story → Story → Type 0) (o m n : Option Story) → n ≡ m → Goes R o m → Goes R o n
steps_to R o m n same r = subst (λ (x : Option Story). Goes R o x) (sym same) r

-- with what holds of the first story
pub steps_with : (P : Story → Type 0) (R T : Story → Story → Type 0) (o n : Option Story) → IfSome o P → Goes R o n
    → ((t u : Story) → P t → R t u → T t u) → Goes T o n
steps_with P R T None None known r step = tt
steps_with P R T None (Some u) known r step = r
steps_with P R T (Some t) None known r step = r
steps_with P R T (Some t) (Some u) known r step = step t u known r

-- what holds then
pub steps_now : (R : Story → Story → Type 0) (Q : Story → Type 0) (o n : Option Story) → Goes R o n → ((t u : Story) → R t u → Q u) → IfSome n Q
steps_now R Q None None r so = tt
steps_now R Q None (Some u) r so = absurd r
steps_now R Q (Some t) None r so = tt
steps_now R Q (Some t) (Some u) r so = so t u r

-- ---- soundness

pub known_then : (P Q : Story → Type 0) (R : Story → Story → Type 0) (o n : Option Story) → ForSome o P → Goes R o n
    → ((s u : Story) → P s → R s u → Q u) → ForSome n Q
known_then P Q R None None known r step = λ x e. absurd (let no : ◌≡◌ {A = Option Story} None (Some x) = e in cc)
known_then P Q R None (Some u) known r step = absurd r
known_then P Q R (Some s) None known r step = absurd r
known_then P Q R (Some s) (Some u) known r step = λ x e. subst Q (same_Some u x e) (step s u (known s refl) r)

pub known_same : (P Q : Story → Type 0) (o n : Option Story) → ForSome o P → n ≡ o → ((s : Story) → P s → Q s) → ForSome n Q
known_same P Q o n known same step = λ x e. step x (known x (sym same ∙ e))

-- with what holds of the new one alone
pub known_if : (P Q : Story → Type 0) (n : Option Story) → ForSome n P → IfSome n Q → ForSome n (λ s. P s × Q s)
known_if P Q None known q = λ x e. absurd (let no : ◌≡◌ {A = Option Story} None (Some x) = e in cc)
known_if P Q (Some s) known q = λ x e. subst (λ (y : Story). P y × Q y) (same_Some s x e) (known s refl, q)

-- ---- tales

pub goes_of : (P : Story → Type 0) (R : Story → Story → Type 0) (T : Tale → Tale → Type 0) (f g : Story → Tale) (o n : Option Story) → ForSome o P
    → Goes R o n → ((s u : Story) → P s → R s u → T (f s) (g u)) → Goes T (option_map f o) (option_map g n)
goes_of P R T f g None None known r step = tt
goes_of P R T f g None (Some u) known r step = absurd r
goes_of P R T f g (Some s) None known r step = absurd r
goes_of P R T f g (Some s) (Some u) known r step = step s u (known s refl) r

pub goes_same : (P : Story → Type 0) (T : Tale → Tale → Type 0) (f g : Story → Tale) (o n : Option Story) → ForSome o P → n ≡ o
    → ((s : Story) → P s → T (f s) (g s)) → Goes T (option_map f o) (option_map g n)
goes_same P T f g o n known same step = subst (λ (x : Option Story). Goes T (option_map f o) (option_map g x)) (sym same) (here o known)
  where
    here : (o : Option Story) → ForSome o P → Goes T (option_map f o) (option_map g o)
    here None known = tt
    here (Some s) known = step s (known s refl)

-- what holds of a story, of its tale
pub mapped_if : (P : Story → Type 0) (Q : Tale → Type 0) (f : Story → Tale) (o n : Option Story) → IfSome o P → n ≡ o → ((s : Story) → P s → Q (f s))
    → IfSome (option_map f n) Q
mapped_if P Q f o n known same step = subst (λ (x : Option Story). IfSome (option_map f x) Q) (sym same) (here o known)
  where
    here : (o : Option Story) → IfSome o P → IfSome (option_map f o) Q
    here None known = tt
    here (Some s) known = step s known

-- with what holds of the new story alone
pub known_also : (P Q : Story → Type 0) (R : Story → Story → Type 0) (X : Story → Type 0) (o n : Option Story) → ForSome o P → Goes R o n → IfSome n X
    → ((s u : Story) → P s → R s u → X u → Q u) → ForSome n Q
known_also P Q R X None None known r also step = λ x e. absurd (let no : ◌≡◌ {A = Option Story} None (Some x) = e in cc)
known_also P Q R X None (Some u) known r also step = absurd r
known_also P Q R X (Some s) None known r also step = absurd r
known_also P Q R X (Some s) (Some u) known r also step = λ x e. subst Q (same_Some u x e) (step s u (known s refl) r also)
