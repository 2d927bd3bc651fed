-- Euclid's algorithm, and the least common multiple of two numbers.
use Rattle.std.proofs.Common.{◌≡◌, ℕ, ◌-◌, ◌*◌, ◌/◌, ◌%◌, ◌<◌, sym, ap, ◌∙◌, subst, mul_assoc, mul_comm, mul-pos, arith}
use Prim.Native.Nat.{◌∣◌}
use native.Mathlib.Nat.{dvd_refl, dvd-zero, dvd-mul_left, dvd-mul_right, dvd-mul_left_of_dvd, dvd-mod_iff, dvd-sub, mul-dvd-mul_left, dvd_of_mul-dvd-mul_left, mod-eq-sub-div-mul, mul-sub, pos_of_dvd_of_pos, div-mul_cancel, mul-div_cancel'}
use Rattle.plan.specs.Periods.{IsGcd, Joins}

-- What Euclid's loop keeps: x and y have the common divisors of a and b, and a × b divides their products with each common multiple.
pub record Euclid (a b x y : ℕ) : Type 0 where
  pub back : (d : ℕ) → d ∣ x → d ∣ y → (d ∣ a) × (d ∣ b)
  pub on : (d : ℕ) → d ∣ a → d ∣ b → (d ∣ x) × (d ∣ y)
  pub joint : (m : ℕ) → a ∣ m → b ∣ m → (a * b ∣ x * m) × (a * b ∣ y * m)

pub euclid_start : (a b : ℕ) → Euclid a b a b
euclid_start a b = record {
  back = λ d p q. (p, q);
  on = λ d p q. (p, q);
  joint = λ m p q. (mul-dvd-mul_left b a q, subst (λ (z : ℕ). z ∣ b * m) (mul_comm b a) (mul-dvd-mul_left a b p));
}

rest_times : (x y m : ℕ) → (x % y) * m ≡ x * m - (x / y) * (y * m)
rest_times x y m = rw (mul_comm (x % y) m, mod-eq-sub-div-mul x y, mul-sub, mul_comm m x, mul_comm m (x / y * y), mul_assoc)

pub euclid_step : (a b x y : ℕ) → Euclid a b x y → Euclid a b y (x % y)
euclid_step a b x y e = record {
  back = λ d p q. e.back d ((dvd-mod_iff d p).0 q) p;
  on = λ d p q. let s = e.on d p q in (s.1, (dvd-mod_iff d s.1).1 s.0);
  joint = λ m p q. let s = e.joint m p q in (s.1, rw rest_times (dvd-sub (a * b) s.0 (dvd-mul_left_of_dvd (a * b) s.1 (x / y))));
}

pub euclid_end : (a b x : ℕ) → Euclid a b x 0 → IsGcd x a b
euclid_end a b x e = record {
  left = (e.back x (dvd_refl x) (dvd-zero x)).0;
  right = (e.back x (dvd_refl x) (dvd-zero x)).1;
  greatest = λ d p q. (e.on d p q).0;
  joint = λ m p q. (e.joint m p q).0;
}

-- h / g × t joins h and t, where g is their greatest common divisor.
pub joins_by_gcd : (h t g : ℕ) → 0 < h → 0 < t → IsGcd g h t → Joins (h / g * t) h t
joins_by_gcd h t g p q e =
    let some : 0 < g = pos_of_dvd_of_pos e.left p in
    let product : g * (h / g * t) ≡ h * t = sym (mul_assoc g (h / g) t) ∙ ap (λ (z : ℕ). z * t) (mul-div_cancel' g e.left) in
    let share : h / g * t ≡ h * (t / g) =
    ap (λ (z : ℕ). h / g * z) (sym (mul-div_cancel' g e.right))
    ∙ (sym (mul_assoc (h / g) g (t / g)) ∙ ap (λ (z : ℕ). z * (t / g)) (div-mul_cancel g e.left)) in
    record {
      positive = pos_of_dvd_of_pos (subst (λ (z : ℕ). h / g * t ∣ z) product (dvd-mul_left (h / g * t) g)) (mul-pos p q);
      left = subst (λ (z : ℕ). h ∣ z) (sym share) (dvd-mul_right h (t / g));
      right = dvd-mul_left t (h / g);
      least = λ m a b. dvd_of_mul-dvd-mul_left (h / g * t) some (subst (λ (z : ℕ). z ∣ g * m) (sym product) (e.joint m a b));
    }

-- The same, for a period that was widened.
pub joins_widened : (h t s g : ℕ) → 0 < h → 0 < t → s ≡ t → IsGcd g h s → Joins (h / g * s) h t
joins_widened h t s g p q w e =
    subst (λ (z : ℕ). Joins (h / g * s) h z) w (joins_by_gcd h s g p (omega arith) e)

pub gcd_positive : (g a b : ℕ) → 0 < a → IsGcd g a b → 0 < g
gcd_positive g a b p e = pos_of_dvd_of_pos e.left p
