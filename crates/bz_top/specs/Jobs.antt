-- The words of the program, and the job that they ask for.
use Rattle.std.specs.Prelude.{ℕ, ◌≡◌, ◌≢◌, List, [], ◌∷◌, codes}
use Rattle.bz_top.specs.declared.job.Job.{Job}
use Rattle.bz_top.specs.declared.job.Job.TheVariants.{Check, Split}

-- a word that names a file: not empty, and without `-` (45) in front
abbrev pub IsFileName : List ℕ → Type 0
IsFileName [] = ⊥
IsFileName (c ∷ cs) = c ≢ 45

-- the words are `check`, a model, a partition and a certificate
pub record AsksToCheck (words : List (List ℕ)) (model part cert : List ℕ) : Type 0 where
  pub words_are : words ≡ codes "check" ∷ model ∷ part ∷ cert ∷ []
  pub model_name : IsFileName model
  pub part_name : IsFileName part
  pub cert_name : IsFileName cert

-- the words are `split`, a model and a partition
pub record AsksToSplit (words : List (List ℕ)) (model part : List ℕ) : Type 0 where
  pub words_are : words ≡ codes "split" ∷ model ∷ part ∷ []
  pub model_name : IsFileName model
  pub part_name : IsFileName part

-- the words ask for the job
abbrev pub JobOf : List (List ℕ) → Job → Type 0
JobOf words (Check model part cert) = AsksToCheck words model part cert
JobOf words (Split model part) = AsksToSplit words model part

-- the words ask for some job
pub record SomeJob (words : List (List ℕ)) : Type 0 where
  pub job : Job
  pub asked : JobOf words job

-- the words ask for nothing that the program does
abbrev pub IsJobless : List (List ℕ) → Type 0
IsJobless words = (job : Job) → ¬ JobOf words job
