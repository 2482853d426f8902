use Rattle.std.proofs.Common.{ℕ, ◌≡◌, ◌≢◌, [], arith, refl, sym, ap}
use Rattle.std.proofs.lemmas.Bool.{ne_eqb}
use Rattle.http_front.specs.Written.{phrases, phrase_of}
use Rattle.http_front.proofs.written.phrase_of.Goals as goal

pub returns-in-100 : goal.returns-in-100
unfolding phrases
returns-in-100 c = ap phrase_of (sym c.in-100.is)

pub returns-in-200 : goal.returns-in-200
unfolding phrases
returns-in-200 c = ap phrase_of (sym c.in-200.is)

pub returns-in-201 : goal.returns-in-201
unfolding phrases
returns-in-201 c = ap phrase_of (sym c.in-201.is)

pub returns-in-202 : goal.returns-in-202
unfolding phrases
returns-in-202 c = ap phrase_of (sym c.in-202.is)

pub returns-in-204 : goal.returns-in-204
unfolding phrases
returns-in-204 c = ap phrase_of (sym c.in-204.is)

pub returns-in-206 : goal.returns-in-206
unfolding phrases
returns-in-206 c = ap phrase_of (sym c.in-206.is)

pub returns-in-301 : goal.returns-in-301
unfolding phrases
returns-in-301 c = ap phrase_of (sym c.in-301.is)

pub returns-in-302 : goal.returns-in-302
unfolding phrases
returns-in-302 c = ap phrase_of (sym c.in-302.is)

pub returns-in-303 : goal.returns-in-303
unfolding phrases
returns-in-303 c = ap phrase_of (sym c.in-303.is)

pub returns-in-304 : goal.returns-in-304
unfolding phrases
returns-in-304 c = ap phrase_of (sym c.in-304.is)

pub returns-in-307 : goal.returns-in-307
unfolding phrases
returns-in-307 c = ap phrase_of (sym c.in-307.is)

pub returns-in-308 : goal.returns-in-308
unfolding phrases
returns-in-308 c = ap phrase_of (sym c.in-308.is)

pub returns-in-400 : goal.returns-in-400
unfolding phrases
returns-in-400 c = ap phrase_of (sym c.in-400.is)

pub returns-in-401 : goal.returns-in-401
unfolding phrases
returns-in-401 c = ap phrase_of (sym c.in-401.is)

pub returns-in-403 : goal.returns-in-403
unfolding phrases
returns-in-403 c = ap phrase_of (sym c.in-403.is)

pub returns-in-404 : goal.returns-in-404
unfolding phrases
returns-in-404 c = ap phrase_of (sym c.in-404.is)

pub returns-in-405 : goal.returns-in-405
unfolding phrases
returns-in-405 c = ap phrase_of (sym c.in-405.is)

pub returns-in-409 : goal.returns-in-409
unfolding phrases
returns-in-409 c = ap phrase_of (sym c.in-409.is)

pub returns-in-410 : goal.returns-in-410
unfolding phrases
returns-in-410 c = ap phrase_of (sym c.in-410.is)

pub returns-in-413 : goal.returns-in-413
unfolding phrases
returns-in-413 c = ap phrase_of (sym c.in-413.is)

pub returns-in-414 : goal.returns-in-414
unfolding phrases
returns-in-414 c = ap phrase_of (sym c.in-414.is)

pub returns-in-429 : goal.returns-in-429
unfolding phrases
returns-in-429 c = ap phrase_of (sym c.in-429.is)

pub returns-in-431 : goal.returns-in-431
unfolding phrases
returns-in-431 c = ap phrase_of (sym c.in-431.is)

pub returns-in-500 : goal.returns-in-500
unfolding phrases
returns-in-500 c = ap phrase_of (sym c.in-500.is)

pub returns-in-501 : goal.returns-in-501
unfolding phrases
returns-in-501 c = ap phrase_of (sym c.in-501.is)

pub returns-in-502 : goal.returns-in-502
unfolding phrases
returns-in-502 c = ap phrase_of (sym c.in-502.is)

pub returns-in-503 : goal.returns-in-503
unfolding phrases
returns-in-503 c = ap phrase_of (sym c.in-503.is)

pub returns-in-504 : goal.returns-in-504
unfolding phrases
returns-in-504 c = ap phrase_of (sym c.in-504.is)

-- a status that is none of the table's
no_phrase : (n : ℕ) → n ≢ 100 → n ≢ 200 → n ≢ 201 → n ≢ 202 → n ≢ 204 → n ≢ 206 → n ≢ 301 → n ≢ 302 → n ≢ 303 → n ≢ 304 → n ≢ 307 → n ≢ 308 → n ≢ 400 → n ≢ 401 → n ≢ 403 → n ≢ 404 → n ≢ 405 → n ≢ 409 → n ≢ 410 → n ≢ 413 → n ≢ 414 → n ≢ 429 → n ≢ 431 → n ≢ 500 → n ≢ 501 → n ≢ 502 → n ≢ 503 → n ≢ 504 → phrase_of n ≡ []
unfolding phrases
no_phrase n n100 n200 n201 n202 n204 n206 n301 n302 n303 n304 n307 n308 n400 n401 n403 n404 n405 n409 n410 n413 n414 n429 n431 n500 n501 n502 n503 n504 =
    rw (ne_eqb 100 n (λ e. n100 (sym e)), ne_eqb 200 n (λ e. n200 (sym e)), ne_eqb 201 n (λ e. n201 (sym e)), ne_eqb 202 n (λ e. n202 (sym e)), ne_eqb 204 n (λ e. n204 (sym e)), ne_eqb 206 n (λ e. n206 (sym e)), ne_eqb 301 n (λ e. n301 (sym e)), ne_eqb 302 n (λ e. n302 (sym e)), ne_eqb 303 n (λ e. n303 (sym e)), ne_eqb 304 n (λ e. n304 (sym e)), ne_eqb 307 n (λ e. n307 (sym e)), ne_eqb 308 n (λ e. n308 (sym e)), ne_eqb 400 n (λ e. n400 (sym e)), ne_eqb 401 n (λ e. n401 (sym e)), ne_eqb 403 n (λ e. n403 (sym e)), ne_eqb 404 n (λ e. n404 (sym e)), ne_eqb 405 n (λ e. n405 (sym e)), ne_eqb 409 n (λ e. n409 (sym e)), ne_eqb 410 n (λ e. n410 (sym e)), ne_eqb 413 n (λ e. n413 (sym e)), ne_eqb 414 n (λ e. n414 (sym e)), ne_eqb 429 n (λ e. n429 (sym e)), ne_eqb 431 n (λ e. n431 (sym e)), ne_eqb 500 n (λ e. n500 (sym e)), ne_eqb 501 n (λ e. n501 (sym e)), ne_eqb 502 n (λ e. n502 (sym e)), ne_eqb 503 n (λ e. n503 (sym e)), ne_eqb 504 n (λ e. n504 (sym e))) refl

pub returns-in_default : goal.returns-in_default
returns-in_default c = sym (no_phrase c.args.status (omega arith) (omega arith) (omega arith) (omega arith) (omega arith) (omega arith) (omega arith) (omega arith) (omega arith) (omega arith) (omega arith) (omega arith) (omega arith) (omega arith) (omega arith) (omega arith) (omega arith) (omega arith) (omega arith) (omega arith) (omega arith) (omega arith) (omega arith) (omega arith) (omega arith) (omega arith) (omega arith) (omega arith))
