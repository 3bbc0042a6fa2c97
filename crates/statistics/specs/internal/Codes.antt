-- How what is kept is stored, by which proofs tell two apart.
use Rattle.std.specs.Prelude.{ℕ, List, refl}
use Rattle.std.specs.Coded.{Coded, code_by, coded_list, coded_ℕ, coded×}
use Rattle.conditions.specs.Questions.{Question}
use Rattle.conditions.specs.internal.FormCode.{question_code}
use Rattle.statistics.specs.declared.sums.Sums.{Sums}
use Rattle.statistics.specs.Counting.{TitledQuestion}
use Rattle.statistics.specs.internal.Kept.{KeptEach, KeptOne, KeptTwo}

abbrev pub asked_code : Coded TitledQuestion
asked_code =
    code_by (Question × (List ℕ × List ℕ))
    (coded× question_code (coded× (coded_list coded_ℕ) (coded_list coded_ℕ)))
    (λ a. (a.question, (a.title, a.string)))
    (λ p. record { question = p.0; title = p.1.0; string = p.1.1 })
    (λ _. refl)

abbrev pub sums_code : Coded Sums
sums_code =
    code_by (ℕ × (ℕ × (ℕ × (ℕ × ℕ))))
    (coded× coded_ℕ (coded× coded_ℕ (coded× coded_ℕ (coded× coded_ℕ coded_ℕ))))
    (λ s. (s.deals, (s.sum, (s.squares, (s.least, s.greatest)))))
    (λ p. record {
      deals = p.0;
      sum = p.1.0;
      squares = p.1.1.0;
      least = p.1.1.1.0;
      greatest = p.1.1.1.1;
    })
    (λ _. refl)

abbrev pub one_code : Coded KeptOne
one_code =
    code_by (TitledQuestion × (Sums × List ℕ))
    (coded× asked_code (coded× sums_code (coded_list coded_ℕ)))
    (λ o. (o.asked, (o.sums, o.counts)))
    (λ p. record { asked = p.0; sums = p.1.0; counts = p.1.1 })
    (λ _. refl)

abbrev pub each_code : Coded KeptEach
each_code =
    code_by (ℕ × List KeptOne) (coded× coded_ℕ (coded_list one_code))
    (λ e. (e.deals, e.ones))
    (λ p. record { deals = p.0; ones = p.1 })
    (λ _. refl)

abbrev pub two_code : Coded KeptTwo
two_code =
    code_by (KeptOne × (TitledQuestion × (Sums × (List ℕ × (List ℕ × List ℕ)))))
    (coded× one_code (coded× asked_code (coded× sums_code
    (coded× (coded_list coded_ℕ) (coded× (coded_list coded_ℕ) (coded_list coded_ℕ))))))
    (λ t. (t.of, (t.by, (t.by_sums, (t.cells, (t.column_deals, t.column_sums))))))
    (λ p. record {
      of = p.0;
      by = p.1.0;
      by_sums = p.1.1.0;
      cells = p.1.1.1.0;
      column_deals = p.1.1.1.1.0;
      column_sums = p.1.1.1.1.1;
    })
    (λ _. refl)
