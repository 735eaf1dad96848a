-- What the fields of a structure need of each other, said once for each number of fields.
use Rattle.std.proofs.Common.{◌≡◌, ℕ, List, ◌++◌, append_assoc}
use Rattle.ua_binary.proofs.Extending.{extends_more}

-- `apart`: an encoding of so many fields, and what follows it, is the first field's and all the rest,
-- as reading takes it apart. `joined`: appended as a whole, it is appended field by field.

pub apart3 : (a b c x : List ℕ) → ((a ++ b) ++ c) ++ x ≡ a ++ (b ++ (c ++ x))
apart3 a b c x = simp append_assoc

pub apart4 : (a b c d x : List ℕ) → (((a ++ b) ++ c) ++ d) ++ x ≡ a ++ (b ++ (c ++ (d ++ x)))
apart4 a b c d x = simp append_assoc

pub apart5 : (a b c d e x : List ℕ) → ((((a ++ b) ++ c) ++ d) ++ e) ++ x ≡ a ++ (b ++ (c ++ (d ++ (e ++ x))))
apart5 a b c d e x = simp append_assoc

pub apart6 : (a b c d e f x : List ℕ) → (((((a ++ b) ++ c) ++ d) ++ e) ++ f) ++ x ≡ a ++ (b ++ (c ++ (d ++ (e ++ (f ++ x)))))
apart6 a b c d e f x = simp append_assoc

pub joined6 : (x a b c d e f : List ℕ) → x ++ (((((a ++ b) ++ c) ++ d) ++ e) ++ f) ≡ (((((x ++ a) ++ b) ++ c) ++ d) ++ e) ++ f
joined6 x a b c d e f = simp append_assoc

pub apart7 : (a b c d e f g x : List ℕ) → ((((((a ++ b) ++ c) ++ d) ++ e) ++ f) ++ g) ++ x ≡ a ++ (b ++ (c ++ (d ++ (e ++ (f ++ (g ++ x))))))
apart7 a b c d e f g x = simp append_assoc

pub joined7 : (x a b c d e f g : List ℕ) → x ++ ((((((a ++ b) ++ c) ++ d) ++ e) ++ f) ++ g) ≡ ((((((x ++ a) ++ b) ++ c) ++ d) ++ e) ++ f) ++ g
joined7 x a b c d e f g = simp append_assoc

pub apart8 : (a b c d e f g h x : List ℕ) → (((((((a ++ b) ++ c) ++ d) ++ e) ++ f) ++ g) ++ h) ++ x ≡ a ++ (b ++ (c ++ (d ++ (e ++ (f ++ (g ++ (h ++ x)))))))
apart8 a b c d e f g h x = simp append_assoc

pub joined8 : (x a b c d e f g h : List ℕ) → x ++ (((((((a ++ b) ++ c) ++ d) ++ e) ++ f) ++ g) ++ h) ≡ (((((((x ++ a) ++ b) ++ c) ++ d) ++ e) ++ f) ++ g) ++ h
joined8 x a b c d e f g h = simp append_assoc

pub apart9 : (a b c d e f g h i x : List ℕ) → ((((((((a ++ b) ++ c) ++ d) ++ e) ++ f) ++ g) ++ h) ++ i) ++ x ≡ a ++ (b ++ (c ++ (d ++ (e ++ (f ++ (g ++ (h ++ (i ++ x))))))))
apart9 a b c d e f g h i x = simp append_assoc

pub joined9 : (x a b c d e f g h i : List ℕ) → x ++ ((((((((a ++ b) ++ c) ++ d) ++ e) ++ f) ++ g) ++ h) ++ i) ≡ ((((((((x ++ a) ++ b) ++ c) ++ d) ++ e) ++ f) ++ g) ++ h) ++ i
joined9 x a b c d e f g h i = simp append_assoc

pub apart10 : (a b c d e f g h i j x : List ℕ) → (((((((((a ++ b) ++ c) ++ d) ++ e) ++ f) ++ g) ++ h) ++ i) ++ j) ++ x ≡ a ++ (b ++ (c ++ (d ++ (e ++ (f ++ (g ++ (h ++ (i ++ (j ++ x)))))))))
apart10 a b c d e f g h i j x = simp append_assoc

pub joined10 : (x a b c d e f g h i j : List ℕ) → x ++ (((((((((a ++ b) ++ c) ++ d) ++ e) ++ f) ++ g) ++ h) ++ i) ++ j) ≡ (((((((((x ++ a) ++ b) ++ c) ++ d) ++ e) ++ f) ++ g) ++ h) ++ i) ++ j
joined10 x a b c d e f g h i j = simp append_assoc

-- for the `using` of a structure with so many fields
pub ruleset fields1 = (extends_more)

pub ruleset fields2 = (extends_more)

pub ruleset fields3 = (extends_more, apart3)

pub ruleset fields4 = (extends_more, apart4)

pub ruleset fields5 = (extends_more, apart5)

pub ruleset fields6 = (extends_more, apart6, joined6)

pub ruleset fields7 = (extends_more, apart7, joined7)

pub ruleset fields8 = (extends_more, apart8, joined8)

pub ruleset fields9 = (extends_more, apart9, joined9)

pub ruleset fields10 = (extends_more, apart10, joined10)
