-- What the reader of words answers.
use Rattle.std.specs.Prelude.{ℕ, List, Result, Ok, Err}
use Rattle.bz_top.specs.declared.job.Job.{Job}
use Rattle.bz_top.specs.declared.words.WordsFault.{WordsFault}
use Rattle.bz_top.specs.Jobs.{IsJobless, JobOf, SomeJob}

-- the job that the words ask for; words that ask for none are refused, and only words with a job for want of memory
abbrev pub ReadsWords : List (List ℕ) → Result Job WordsFault → Type 0
ReadsWords words (Ok job) = JobOf words job
ReadsWords words (Err WordsFault.Usage) = IsJobless words
ReadsWords words (Err WordsFault.OutOfMemory) = SomeJob words
